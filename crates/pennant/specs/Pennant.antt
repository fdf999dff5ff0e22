-- Pennants, as in 000, section 4: the tree below a root, the slot of a backbone, pennant union and pennant split.
use Rattle.std.specs.Prelude.{ℕ}

-- "a complete binary tree" of numbers: NULL, or a node with its number, its left child and its right child,
-- in this order (§4.1)
pub data Tree : Type 0 where
  null : Tree
  node : ℕ → Tree → Tree → Tree

-- an entry of the backbone, "either a null pointer or a pointer to a pennant": NULL, or the root's number and
-- its left child ("the root of the tree has only a left child") (§4.4)
pub data Slot : Type 0 where
  gap : Slot
  tip : ℕ → Tree → Slot

-- PENNANT-UNION(x, y): "y.right = x.left, x.left = y, return x"; where one of the two is missing, the other (§4.2)
unfoldable pub pennant_union : Slot → Slot → Slot
pennant_union gap y = y
pennant_union (tip a x) gap = tip a x
pennant_union (tip a x) (tip b y) = tip a (node b y x)

-- PENNANT-SPLIT(x), what x is afterwards: "y = x.left, x.left = y.right".
-- "We assume that the input pennant contains at least 2 elements": a smaller one stays as it is (§4.3)
unfoldable pub pennant_first : Slot → Slot
pennant_first gap = gap
pennant_first (tip a null) = tip a null
pennant_first (tip a (node b y x)) = tip a x

-- PENNANT-SPLIT(x), what it returns: "y = x.left, .. y.right = NULL, return y"; of a smaller one nothing (§4.3)
unfoldable pub pennant_second : Slot → Slot
pennant_second gap = gap
pennant_second (tip a null) = gap
pennant_second (tip a (node b y x)) = tip b y
