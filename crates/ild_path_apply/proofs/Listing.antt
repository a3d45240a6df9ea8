-- Items that come into a list and go, where the item may be no list.
use Rattle.std.proofs.Common.{◌≡◌, ◌<◌, ℕ, zero, suc, List, [], ◌∷◌, ◌++◌, append-nil, insert, length, slice_get, Some, None, refl, sym, ◌∙◌, ap, subst}
use Rattle.std.specs.Prelude.{Result, min, remove}
use Rattle.std.proofs.lemmas.List.{drop_min, take_min}
use Rattle.std.proofs.lemmas.Option.{same_Some, none-some}
use Rattle.ild_cbor.specs.Nodes.{Finds, HasData}
use Rattle.ild_cbor.specs.Scalar.{count_of, kind_of}
use Rattle.ild_cbor.specs.Span.{item_of, place_of}
use Rattle.ild_cbor.specs.declared.kind.Kind.TheVariants as K
use Rattle.ild_cbor.specs.declared.node.Node.{Node}
use Rattle.ild_splice_changes.specs.TreeChange.{change_here, changed, insert_item, one, remove_item, unchanged}
use Rattle.ild_data.proofs.Gets.{got_below}
use Rattle.ild_data.proofs.Lists.{items_of-items_list}
use Rattle.ild_data.specs.Data as T
use Rattle.ild_data.specs.Data.{Data, items_list, items_of}
use Rattle.ild_splice.specs.Splices.{Splices}
use Rattle.ild_splice.specs.declared.error.SpliceErr.{SpliceErr}
use Rattle.ild_path_apply.specs.Applies.{Applies}
use Rattle.ild_path_apply.proofs.Finding.{found_none, found_some}
use Rattle.ild_path_apply.proofs.Within.{alike, makes_same, no_change}

-- a place behind the last is as good
at_place : {X : Type 0} (xs : List X) (at place : ℕ) (x : X) → place ≡ min at (length xs) → insert xs place x ≡ insert xs at x
at_place xs at place x h = ap (λ (i : ℕ). insert xs i x) h ∙ (λ j. take_min at xs j ++ x ∷ drop_min at xs j)

pub clipped : (n : Node) (at place : ℕ) (x : Data) (r : Result (List ℕ) SpliceErr) → ((d : Data) → HasData n d → kind_of d ≡ K.List) → ((d : Data) (m : ℕ) → HasData n d → count_of d ≡ Some m → place ≡ min at m)
    → Splices n (insert_item place x) r → Applies n (one [] (insert_item at x)) r
clipped n at place x r list within s = record {
  makes = λ t d q is.
      let same : change_here (insert_item place x) d ≡ change_here (insert_item at x) d = by d (list d is.stands) (within d) is.stands in
      makes_same (changed q (insert_item place x) t) (changed (q ++ []) (insert_item at x) t) r
      (alike (insert_item place x) (insert_item at x) t d q is.part same ∙ ap (λ p. changed p (insert_item at x) t) (sym (append-nil q))) (s.makes t d q is);
} where
  by : (d : Data) → kind_of d ≡ K.List → ((m : ℕ) → HasData n d → count_of d ≡ Some m → place ≡ min at m) → HasData n d → change_here (insert_item place x) d ≡ change_here (insert_item at x) d
  by T.null e w h = refl
  by (T.boolean b) e w h = refl
  by (T.integer m) e w h = refl
  by (T.text y) e w h = refl
  by (T.bytes y) e w h = refl
  by (T.list ds) e w h = ap (λ ys. T.list (items_of ys)) (at_place (items_list ds) at place x (w (length (items_list ds)) h refl))
  by (T.map ms) e w h = refl
  by (T.link y) e w h = refl

-- nothing comes into what is no list
pub not_list : (n : Node) (at : ℕ) (x : Data) (r : Result (List ℕ) SpliceErr) → Applies n unchanged r → ((d : Data) → HasData n d → kind_of d ≡ K.List → ⊥) → Applies n (one [] (insert_item at x)) r
not_list n at x r s never = no_change n (insert_item at x) r s (λ d stands. by d (never d stands)) where
  by : (d : Data) → (kind_of d ≡ K.List → ⊥) → change_here (insert_item at x) d ≡ d
  by T.null h = refl
  by (T.boolean b) h = refl
  by (T.integer m) h = refl
  by (T.text y) h = refl
  by (T.bytes y) h = refl
  by (T.list ds) h = absurd (h refl)
  by (T.map ms) h = refl
  by (T.link y) h = refl

remove_past : {X : Type 0} (xs : List X) (i : ℕ) → slice_get xs i ≡ None → remove xs i ≡ xs
remove_past [] zero h = refl
remove_past [] (suc i) h = refl
remove_past (y ∷ ys) zero h = absurd (none-some y (sym h))
remove_past (y ∷ ys) (suc i) h = ap (λ zs. y ∷ zs) (remove_past ys i h)

pub record IsItem (d : Data) (i : ℕ) : Type 0 where
  pub list : kind_of d ≡ K.List
  pub less : (m : ℕ) → count_of d ≡ Some m → i < m

item_in : (d e : Data) (i : ℕ) → item_of d i ≡ Some e → IsItem d i
item_in T.null e i h = absurd (none-some e h)
item_in (T.boolean b) e i h = absurd (none-some e h)
item_in (T.integer n) e i h = absurd (none-some e h)
item_in (T.text y) e i h = absurd (none-some e h)
item_in (T.bytes y) e i h = absurd (none-some e h)
item_in (T.list ds) e i h = record { list = refl; less = λ m c. subst (λ (k : ℕ). i < k) (same_Some (length (items_list ds)) m c) (got_below (items_list ds) i e h) }
item_in (T.map ms) e i h = absurd (none-some e h)
item_in (T.link y) e i h = absurd (none-some e h)

pub item_is : (n m : Node) (d : Data) (i : ℕ) → HasData n d → ((u : Data) → HasData n u → Finds n (place_of u i) (item_of u i) (Some m)) → IsItem d i
item_is n m d i stands finds = let x = found_some n m (place_of d i) (item_of d i) (finds d stands) in item_in d x.0 i x.1

no_item : (d : Data) (i : ℕ) → item_of d i ≡ None → change_here (remove_item i) d ≡ d
no_item T.null i h = refl
no_item (T.boolean b) i h = refl
no_item (T.integer n) i h = refl
no_item (T.text y) i h = refl
no_item (T.bytes y) i h = refl
no_item (T.list ds) i h = ap T.list (ap items_of (remove_past (items_list ds) i h) ∙ items_of-items_list ds)
no_item (T.map ms) i h = refl
no_item (T.link y) i h = refl

pub no_item_goes : (n : Node) (i : ℕ) (r : Result (List ℕ) SpliceErr) → ((u : Data) → HasData n u → Finds n (place_of u i) (item_of u i) None) → Applies n unchanged r → Applies n (one [] (remove_item i)) r
no_item_goes n i r finds s = no_change n (remove_item i) r s (λ d stands. no_item d i (found_none n (place_of d i) (item_of d i) (finds d stands)))
