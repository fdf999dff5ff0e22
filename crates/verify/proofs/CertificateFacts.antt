-- What the steps of the certificate read, against the definitions: one target further in a row, the parent and the label of one vertex by the labels
-- that are read, and one vertex further.
use mathlib.Core.Path.{◌≡◌, refl, sym, ap, ap₂, ◌∙◌}
use mathlib.Core.Bool.{Bool, true, false, cond, not, ◌||◌}
use mathlib.Core.List.{List, [], ◌∷◌, map}
use mathlib.Core.Option.{Option, none, some}
use Prim.Native.Nat.{ℕ, suc, ◌+◌, ◌-◌, ◌≤◌, ◌<◌}
use native.Mathlib.Numerals.{add-one}
use native.Mathlib.Omega.{arith}
use lib.Dec.{eqb}
use lib.ListN.{length, get_or, drop, length-map, drop_of_length-le, get_or-eq_default}
use lib.Seq.{drop-cons}
use borrow.Author.Tests.{eq-eqb, ne_eqb}
use Rattle.std.specs.List.{list_any}
use Rattle.std.specs.Prelude as code
use Rattle.std.specs.Prelude.{Some, None, is_some}
use Rattle.std.specs.Option.{option_eq}
use Rattle.lists.specs.Lists.{numbers_from, elem, reaches, any_of}
use Rattle.lists.proofs.Or.{or_found, or_passed}
use Rattle.lists.proofs.Replaced.{map_at}
use Rattle.lists.proofs.Tests.{reaches_at, reaches_row}
use Rattle.graph.specs.Graph.{edges, targets_of, rows_of}
use Rattle.graph.specs.Links.{links_of}
use Rattle.graph.specs.Steps.{GraphRows}
use Rattle.graph.proofs.Bridge.{graph_links}
use Rattle.model.specs.Paths.{is_set}
use Rattle.model.specs.Words.{option_of, labels_of}
use Rattle.verify.specs.Certificate.{beyond, any_beyond, is_not, not_before, parent_wrong, label_wrong, vertex_wrong, result_wrong}
use Rattle.verify.specs.Steps.{Checkable, label_in}

-- Labels.

-- a label is set in the code where it is in the definitions
set_label : (label : code.Option ℕ) → is_set (label_in label) ≡ is_some label
set_label None = refl
set_label (Some x) = refl

-- and other than k
other_label : (k : ℕ) (label : code.Option ℕ) → is_not k (label_in label) ≡ not (option_eq eqb label (Some k))
unfolding is_not
other_label k None = refl
other_label k (Some x) = refl

-- Whether a vertex stands in a row: some target is it.

pub elem_any : (x : ℕ) (row : List ℕ) → elem x row ≡ list_any (λ y. eqb x y) row
unfolding elem
elem_any x [] = refl
elem_any x (y ∷ row) = ap (λ rest. eqb x y || rest) (elem_any x row)

-- Whether some target of a row is unset or farther than `most`, one place after another.

module _ (distances : List ℕ) (most : ℕ) where
  -- some target of this row is, by the words
  abbrev pub any_far : List ℕ → Bool
  any_far row = any_beyond (map option_of distances) most row

  -- none is left
  pub far_end : (row : List ℕ) (i : ℕ) → any_far row ≡ any_far (drop i row) → length row ≤ i → false ≡ any_far row
  unfolding any_beyond any_of
  far_end row i inv h = sym (inv ∙ ap any_far (drop_of_length-le row h))

  module _ (row : List ℕ) (i : ℕ) (below : reaches (length distances) row ≡ false) (here : i < length row) {t : ℕ} (leads : t ≡ get_or row i 0) where
    -- the target at this place is a vertex
    pub target_there : t < length distances
    target_there = rw leads (reaches_at (length distances) row i below here)

    module _ {label : Option ℕ} (shown : label ≡ option_of (get_or distances t 0)) (inv : any_far row ≡ any_far (drop i row)) where
      -- it is this target, or one further on
      far_more : any_far row ≡ beyond most label || any_far (drop (i + 1) row)
      unfolding any_beyond any_of
      far_more =
          let read : get_or (map option_of distances) t none ≡ label = map_at option_of distances t 0 none target_there ∙ sym shown in
          let test : ℕ → Bool = λ (u : ℕ). beyond most (get_or (map option_of distances) u none) || any_far (drop (i + 1) row) in
          let one : any_far (drop i row) ≡ test (get_or row i 0) = rw (drop-cons row i 0, add-one) in
          inv ∙ one ∙ ap test (sym leads) ∙ ap (λ (o : Option ℕ). beyond most o || any_far (drop (i + 1) row)) read

      -- it is this one
      pub far_here : beyond most label ≡ true → true ≡ any_far row
      far_here e = or_found (beyond most label) (any_far (drop (i + 1) row)) far_more e

      -- it isn't this one
      pub far_passed : beyond most label ≡ false → any_far row ≡ any_far (drop (i + 1) row)
      far_passed e = or_passed (beyond most label) (any_far (drop (i + 1) row)) far_more e

-- The view of a vertex.

module _ {offsets targets : List ℕ} {n : ℕ} (ground : GraphRows offsets targets n) (u : ℕ) (h : u < n) {row : List ℕ}
    (view : row ≡ links_of offsets targets u) where
  -- it is the row of the vertex
  view_row : row ≡ edges (rows_of offsets targets) u
  view_row =
      view
      ∙ ap₂ (λ (starts ends : List ℕ). links_of starts ends u) ground.starts ground.ends
      ∙ graph_links (rows_of offsets targets) u (omega (arith, ground.count))

  -- its targets are vertices
  pub view_below : reaches n row ≡ false
  unfolding edges targets_of
  view_below = ap (reaches n) view_row ∙ reaches_row n (rows_of offsets targets) u (ap (reaches n) (sym ground.ends) ∙ ground.below)

-- The parent of a vertex.

module _ (offsets targets distances : List ℕ) (v distance parent : ℕ) where
  -- whether it is wrong
  abbrev no_parent : Bool
  no_parent = parent_wrong (rows_of offsets targets) (map option_of distances) v distance (some parent)

  -- whether it has no edge to the vertex
  abbrev no_edge : Bool
  no_edge = not (elem v (edges (rows_of offsets targets) parent))

  -- a number past the vertices
  pub parent_outside : length distances ≤ parent → true ≡ no_parent
  unfolding parent_wrong not_before
  parent_outside h =
      let past : get_or (map option_of distances) parent none ≡ none =
      get_or-eq_default (map option_of distances) none (omega (arith, length-map distances option_of)) in
      sym (ap (λ (o : Option ℕ). not_before distance o || no_edge) past)

  module _ (inside : parent < length distances) {label : Option ℕ} (shown : label ≡ option_of (get_or distances parent 0)) where
    -- a vertex: by its distance, or by its edges
    parent_by : no_parent ≡ not_before distance label || no_edge
    unfolding parent_wrong
    parent_by = ap (λ (o : Option ℕ). not_before distance o || no_edge) (map_at option_of distances parent 0 none inside ∙ sym shown)

    -- its distance is unset or isn't one less
    pub parent_apart : not_before distance label ≡ true → true ≡ no_parent
    parent_apart e = or_found (not_before distance label) no_edge parent_by e

    -- its distance is one less: by its edges
    pub parent_edge : GraphRows offsets targets (length distances) → not_before distance label ≡ false → {found : Bool} {row : List ℕ}
        → found ≡ elem v row → row ≡ links_of offsets targets parent → not found ≡ no_parent
    parent_edge ground e edge view =
        ap not (edge ∙ ap (elem v) (view_row ground parent inside view)) ∙ sym (or_passed (not_before distance label) no_edge parent_by e)

-- The label of a vertex, and those of all vertices, one after another.

module _ (source : ℕ) (offsets targets distances parents : List ℕ) where
  -- whether the label of v is wrong
  abbrev wrong_at : ℕ → Bool
  wrong_at v = vertex_wrong (rows_of offsets targets) source (labels_of distances parents) v

  -- whether these are, as its distance and its parent
  abbrev wrong_as : ℕ → Option ℕ → Option ℕ → Bool
  wrong_as v distance parent = label_wrong (rows_of offsets targets) source (labels_of distances parents) v distance parent

  module _ (ok : Checkable source offsets targets distances parents) (v : ℕ) (here : v < length distances) (label parent : code.Option ℕ)
      (shown : label_in label ≡ option_of (get_or distances v 0)) (named : label_in parent ≡ option_of (get_or parents v 0)) where
    -- by the labels that are read
    wrong_by : {distance : code.Option ℕ} → label ≡ distance → wrong_at v ≡ wrong_as v (label_in distance) (label_in parent)
    unfolding vertex_wrong labels_of
    wrong_by e =
        ap₂ (wrong_as v)
        (map_at option_of distances v 0 none here ∙ sym shown ∙ ap label_in e)
        (map_at option_of parents v 0 none (omega (arith, ok.parents_all)) ∙ sym named)

    module _ (unreached : label ≡ None) where
      -- a vertex that isn't reached: it is the source, or it has a parent
      unreached_by : wrong_at v ≡ eqb v source || is_some parent
      unfolding label_wrong
      unreached_by = wrong_by unreached ∙ ap (λ (b : Bool). eqb v source || b) (set_label parent)

      -- it is the source
      pub unreached_source : v ≡ source → eqb v source ≡ wrong_at v
      unreached_source q = let same = eq-eqb v source q in same ∙ or_found (eqb v source) (is_some parent) unreached_by same

      -- it isn't
      pub unreached_other : (v ≡ source → ⊥) → is_some parent ≡ wrong_at v
      unreached_other q = sym (or_passed (eqb v source) (is_some parent) unreached_by (ne_eqb v source q))

    -- what a vertex that is reached is judged by if no edge leads too far, given whether it is the source
    abbrev name_wrong : ℕ → Bool → Bool
    name_wrong distance own =
        cond own (not (eqb distance 0) || is_not source (label_in parent))
        (parent_wrong (rows_of offsets targets) (map option_of distances) v distance (label_in parent))

    module _ {distance : ℕ} (reached : label ≡ Some distance) {far : Bool} {row : List ℕ}
        (seen : far ≡ any_far distances (distance + 1) row) (view : row ≡ links_of offsets targets v) where
      -- a vertex that is reached: an edge leads too far, or the rest is wrong
      reached_by : wrong_at v ≡ far || name_wrong distance (eqb v source)
      unfolding label_wrong labels_of
      reached_by =
          let same : any_far distances (suc distance) (edges (rows_of offsets targets) v) ≡ far =
          ap₂ (any_beyond (map option_of distances)) (sym (add-one distance)) (sym (view_row ok.rows v here view)) ∙ sym seen in
          wrong_by reached ∙ ap (λ (b : Bool). b || name_wrong distance (eqb v source)) same

      -- an edge does
      pub reached_far : far ≡ true → true ≡ wrong_at v
      reached_far e = or_found far (name_wrong distance (eqb v source)) reached_by e

      module _ (near : far ≡ false) where
        -- no edge does, and it is the source: its distance isn't 0, or its parent is another
        source_by : v ≡ source → wrong_at v ≡ not (eqb distance 0) || not (option_eq eqb parent (Some source))
        source_by q =
            or_passed far (name_wrong distance (eqb v source)) reached_by near
            ∙ ap (name_wrong distance) (eq-eqb v source q)
            ∙ ap (λ (b : Bool). not (eqb distance 0) || b) (other_label source parent)

        -- its distance isn't 0
        pub source_far : v ≡ source → (distance ≡ 0 → ⊥) → not (eqb distance 0) ≡ wrong_at v
        source_far q h =
            let apart = ap not (ne_eqb distance 0 h) in
            apart ∙ or_found (not (eqb distance 0)) (not (option_eq eqb parent (Some source))) (source_by q) apart

        -- its distance is 0
        pub source_near : v ≡ source → distance ≡ 0 → not (option_eq eqb parent (Some source)) ≡ wrong_at v
        source_near q h =
            sym (or_passed (not (eqb distance 0)) (not (option_eq eqb parent (Some source))) (source_by q) (ap not (eq-eqb distance 0 h)))

        -- no edge does, and it isn't the source: its parent is wrong
        pub other_by : (v ≡ source → ⊥) → name_wrong distance false ≡ wrong_at v
        other_by q =
            sym (or_passed far (name_wrong distance (eqb v source)) reached_by near ∙ ap (name_wrong distance) (ne_eqb v source q))

  -- whether the label of some vertex from v on is wrong
  unfoldable pub wrong_from : ℕ → Bool
  wrong_from v = any_of (vertex_wrong (rows_of offsets targets) source (labels_of distances parents)) (numbers_from v (length distances - v))

  -- whether the label of some vertex is
  abbrev wrong_any : Bool
  wrong_any = result_wrong (rows_of offsets targets) source (labels_of distances parents)

  -- from the first vertex on
  pub wrong_all : Checkable source offsets targets distances parents → wrong_any ≡ wrong_from 0
  unfolding wrong_from result_wrong
  wrong_all ok =
      let all : length (rows_of offsets targets) ≡ length distances - 0 = omega (arith, ok.rows.count) in
      ap (λ (k : ℕ). any_of (vertex_wrong (rows_of offsets targets) source (labels_of distances parents)) (numbers_from 0 k)) all

  module _ (v : ℕ) (inv : wrong_any ≡ wrong_from v) where
    -- that of v, or of one further on
    wrong_more : v < length distances → wrong_any ≡ wrong_at v || wrong_from (v + 1)
    unfolding wrong_from any_of numbers_from
    wrong_more h = let left : length distances - v ≡ suc (length distances - (v + 1)) = omega arith in inv ∙ rw (left, add-one)

    -- that of v is wrong
    pub wrong_here : v < length distances → {wrong : Bool} → wrong ≡ wrong_at v → wrong ≡ true → true ≡ wrong_any
    wrong_here h e t = or_found (wrong_at v) (wrong_from (v + 1)) (wrong_more h) (sym e ∙ t)

    -- that of v isn't
    pub wrong_passed : v < length distances → {wrong : Bool} → wrong ≡ wrong_at v → wrong ≡ false → wrong_any ≡ wrong_from (v + 1)
    wrong_passed h e t = or_passed (wrong_at v) (wrong_from (v + 1)) (wrong_more h) (sym e ∙ t)

    -- no vertex is left
    pub wrong_end : length distances ≤ v → false ≡ wrong_any
    unfolding wrong_from any_of numbers_from
    wrong_end h = let none_left : length distances - v ≡ 0 = omega arith in sym (inv ∙ rw none_left)
