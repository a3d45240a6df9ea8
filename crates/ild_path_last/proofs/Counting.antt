-- The items of a list in a block: one at a place, and how many they are.
use Rattle.std.proofs.Common.{◌≡◌, ◌≤◌, ◌<◌, ◌^◌, ℕ, List, true, false, length, slice_get, Bool, cond, codes, Option, Some, None, refl, sym, ◌∙◌, ap, subst, arith}
use Rattle.std.specs.Prelude.{MatchOption, is_some, nat_le}
use Rattle.std.proofs.lemmas.Option.{same_Some, none-some}
use Rattle.ild_cbor.specs.Nodes.{Finds, HasData}
use Rattle.ild_cbor.specs.Scalar.{count_of}
use Rattle.ild_cbor.specs.Span.{item_of, place_of}
use Rattle.ild_cbor.specs.declared.node.Node.{Node}
use Rattle.ild_cbor.specs.declared.piece.Piece.{Piece}
use Rattle.ild_cbor.specs.declared.piece.Piece.TheVariants as Q
use Rattle.ild_data.specs.Data as T
use Rattle.ild_data.specs.Data.{Data, items_list, items_of}
use Rattle.ild_data.specs.Key.{same_text}
use Rattle.ild_data.proofs.Lists.{items_list-items_of, length-items}
use Rattle.ild_path_edits.proofs.Judges.{small_of}
use Rattle.ild_path_edits.specs.Table.{new_index, up_to}
use Rattle.ild_layer_piece.specs.Pieces.{StandsFor}
use Rattle.ild_schema.specs.declared.row.Row.{Row}
use Rattle.ild_path_steps.proofs.Listing.{items_few}
use Rattle.ild_typed.specs.Segment.{index_of}

found_is : (n : Node) (k : ℕ) (o : Option Data) (r : Option Node) → Finds n k o r → is_some r ≡ is_some o
found_is n k None None h = refl
found_is n k None (Some m) h = absurd h
found_is n k (Some d) None h = absurd h
found_is n k (Some d) (Some m) h = refl

at_end : (n : ℕ) (s : List ℕ) → same_text s (codes "-") ≡ true → new_index n s ≡ Some n
unfolding new_index
at_end n s e = ap (λ b. cond b (Some n) (up_to n (index_of s))) e

at_index : (n : ℕ) (s : List ℕ) → same_text s (codes "-") ≡ false → new_index n s ≡ up_to n (index_of s)
unfolding new_index
at_index n s e = ap (λ b. cond b (Some n) (up_to n (index_of s))) e

up_to_is : (n i : ℕ) (o : Option ℕ) → up_to n o ≡ Some i → (o ≡ Some i) × (i ≤ n)
up_to_is n i None h = absurd (none-some i h)
up_to_is n i (Some j) h = by (nat_le j n) refl h where
  by : (b : Bool) → nat_le j n ≡ b → cond b (Some j) None ≡ Some i → (Some j ≡ Some i) × (i ≤ n)
  by false e h = absurd (none-some i h)
  by true e h =
      let same = same_Some j i h in
      let small = small_of j n e in
      (h, omega (arith, same, small))

module _ (rows : List Row) (p : Piece) (ds : List Data) (stands : StandsFor rows p (T.list (items_of ds))) where
  pub item_there : (n : Node) (i : ℕ) (r : Option Node) → p ≡ Q.Node n → ((t : Data) → HasData n t → Finds n (place_of t i) (item_of t i) r) → is_some r ≡ is_some (slice_get ds i)
  item_there n i r is finds =
      let at : HasData n (T.list (items_of ds)) = subst (λ q. StandsFor rows q (T.list (items_of ds))) is stands in
      found_is n (place_of (T.list (items_of ds)) i) (item_of (T.list (items_of ds)) i) r (finds (T.list (items_of ds)) at) ∙ ap (λ xs. is_some (slice_get xs i)) (items_list-items_of ds)

  pub counted : (n : Node) (r : Option ℕ) → p ≡ Q.Node n → ((t : Data) → HasData n t → r ≡ count_of t) → r ≡ Some (length ds)
  counted n r is counts =
      let at : HasData n (T.list (items_of ds)) = subst (λ q. StandsFor rows q (T.list (items_of ds))) is stands in
      counts (T.list (items_of ds)) at ∙ ap Some (length-items ds)

  few : length ds < 2 ^ 64
  few = let f = items_few rows p (items_of ds) stands in let long = length-items ds in omega (arith, f, long)

  pub end_place : (s : List ℕ) (i : ℕ) → same_text s (codes "-") ≡ true → new_index (length ds) s ≡ Some i → Some (length ds) ≡ Some i
  end_place s i e h = sym (at_end (length ds) s e) ∙ h

  pub index_place : (s : List ℕ) (i : ℕ) (r : Option ℕ) → same_text s (codes "-") ≡ false → new_index (length ds) s ≡ Some i
      → MatchOption r ((j : ℕ) → index_of s ≡ Some j → 2 ^ 64 ≤ j) (λ j. index_of s ≡ Some j) → r ≡ Some i
  index_place s i r e h m = by r m (up_to_is (length ds) i (index_of s) (sym (at_index (length ds) s e) ∙ h)) where
    by : (r : Option ℕ) → MatchOption r ((j : ℕ) → index_of s ≡ Some j → 2 ^ 64 ≤ j) (λ j. index_of s ≡ Some j) → (index_of s ≡ Some i) × (i ≤ length ds) → r ≡ Some i
    by None m at = let much = m i at.0 in let less = few in absurd (omega (arith, much, less, at.1))
    by (Some j) m at = sym m ∙ at.0

pub index_is : (s : List ℕ) (i j : ℕ) → index_of s ≡ Some i → index_of s ≡ Some j → j ≡ i
index_is s i j e h = same_Some j i (sym h ∙ e)

pub index_long : {A : Type 0} (s : List ℕ) (i : ℕ) → index_of s ≡ Some i → i < 2 ^ 64 → ((j : ℕ) → index_of s ≡ Some j → 2 ^ 64 ≤ j) → A
index_long s i e less long = let much = long i e in absurd (omega (arith, less, much))
