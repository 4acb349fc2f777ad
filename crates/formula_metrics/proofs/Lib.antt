pub mod SampleLists
