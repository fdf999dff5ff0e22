-- The laws of pennants and bags: the one place that the crates above name them by.

-- Weights: the sum of any f over the numbers held, one law per operation; copies are f = only v, sizes f = one.
pub use Rattle.pennant.proofs.Weights.{weigh_empty, weigh_insert, weigh_union, weigh_split, weigh_items, only_self, only_other, only_few}
pub use Rattle.pennant.proofs.Shapes.{weigh_rest}
-- Empty or not, and the number taken.
pub use Rattle.pennant.proofs.Weights.{empty_size, empty_bag_lem, empty_weighs, filled_size, sized_filled, taken_held}
-- Shapes: slot k is empty or holds a pennant of size 2^k, before and after.
pub use Rattle.pennant.proofs.Shapes.{shaped_empty, shaped_insert, shaped_union, shaped_first, shaped_second, shaped_rest}
-- Sizes: what a slot, a half and a bag hold.
pub use Rattle.pennant.proofs.Sizes.{slot_size, no_slot_above, two_size, split_sizes, split_filled, size_within}
-- Lengths: the backbone keeps its 16 slots.
pub use Rattle.pennant.proofs.Sizes.{length_empty, empty_bare, length_insert, length_union, length_first, length_second, length_rest}
-- Maps: every operation gives the same trees whatever numbers they hold.
pub use Rattle.pennant.proofs.Maps.{map_empty, map_insert, map_union, map_first, map_second, map_rest, map_taken, map_is_empty, map_at_least_two}
pub use Rattle.pennant.proofs.Maps.{map_length, map_same, weigh_map, shaped_map}
-- Parts of the operations, for the code that takes them slot by slot.
pub use Rattle.pennant.proofs.Weights.{weigh_pennant_union, weigh_insert_pennant, weigh_add_from, weigh_append, weigh_halves, weigh_end, weigh_slot_items}
pub use Rattle.pennant.proofs.Shapes.{weigh_spread}
pub use Rattle.pennant.proofs.Sizes.{pennant_size, power_below}
