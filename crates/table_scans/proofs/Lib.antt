pub mod HeldSlots
