-- The opening of a search: what stands in the lists before the first event.
pub mod Opening
