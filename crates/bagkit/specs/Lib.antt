-- What the contracts of the bags' tests cite.
pub mod Family
