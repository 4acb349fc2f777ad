pub mod KeptNumbers
pub mod CountedKeys
pub mod SeenKeys
