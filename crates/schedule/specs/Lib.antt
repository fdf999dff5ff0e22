-- Event bytes: what each means, which entry of the table it has, and which schedules are refused.
pub mod Events
pub mod Table
pub mod Check
