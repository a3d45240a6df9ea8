-- What a proof says of a value that a store holds is what the value answers.
use Rattle.std.proofs.Common.{◌≡◌, ◌<◌, ℕ, zero, suc, Bool, true, false, cond, ⊎_elim, List, [], ◌∷◌, length, Option, Some, refl, sym, ap, ◌∙◌, arith}
use Rattle.std.specs.Prelude.{Contains, slice_index_or}
use Rattle.std.specs.Cmp.Lexicographic.{same_text as texts_same, nat_list_eq_equiv}
use Rattle.std.proofs.lemmas.Option.{same_Some}
use Rattle.ild_data.proofs.AllOf.{all_contained, contains_first, contains_more}
use Rattle.ild_data.specs.Among.{AreUnderIds}
use Rattle.ild_data.specs.Key.{same_text}
use Rattle.ild_data.specs.Spell.{id_of}
use Rattle.ild_edges.specs.Gained.{AreHeld}
use Rattle.ild_edges.specs.Store.{block_at}
use Rattle.ild_inclusion.specs.Says.{BlocksSay}
use Rattle.ild_inclusion.specs.declared.answer.Answer.{Answer}
use Rattle.ild_inclusion_held.specs.Answered.{answered}
use Rattle.ild_inclusion_held.specs.Laws.{ProofsHold, TwoCollide}
use Rattle.ild_schema.specs.Slots.{plainly}
use Rattle.ild_schema.specs.Value.{Value}
use Rattle.ild_schema.specs.declared.number.TypeNo.{TypeNo}
use Rattle.ild_schema.specs.declared.row.Row.{Row}
use Rattle.ild_typed.specs.Schema.{IsSchema}
use Rattle.ild_typed.specs.Stands.{Stands, bare, blocks_of}

-- ---- blocks that are what is answered for their ids hold themselves

module _ (block : List ℕ → Option (List ℕ)) where
  first_found : (xs : List (List ℕ)) (b : List ℕ) → AreUnderIds block xs → block (id_of b) ≡ Some b → Contains xs b → block_at xs (id_of b) ≡ Some b
  first_found [] b all own here = let none = here.1 in absurd (omega (arith, none))
  first_found (x ∷ xs) b all own here = by (same_text (id_of x) (id_of b)) refl here.0 here.1 here.2 (λ more. first_found xs b all.1 own more) where
    by : (t : Bool) → t ≡ same_text (id_of x) (id_of b) → (k : ℕ) → k < length (x ∷ xs) → slice_index_or (x ∷ xs) k b ≡ b → (Contains xs b → block_at xs (id_of b) ≡ Some b) → cond t (Some x) (block_at xs (id_of b)) ≡ Some b
    by true e k lt is later = sym all.0 ∙ ap block (texts_same (id_of x) (id_of b) e) ∙ own
    by false e zero lt is later = absurd (let no : false ≡ true = e ∙ ap (λ y. same_text (id_of y) (id_of b)) is ∙ nat_list_eq_equiv.refl (id_of b) in cc)
    by false e (suc k) lt is later = later (k, omega (arith, lt), is)

  under : (ys xs : List (List ℕ)) → ((b : List ℕ) → Contains ys b → Contains xs b) → AreUnderIds block xs → AreUnderIds block ys → AreUnderIds (block_at xs) ys
  under [] xs sub all own = tt
  under (y ∷ ys) xs sub all own = (first_found xs y all own.0 (sub y (contains_first y ys)), under ys xs (λ b here. sub b (contains_more y ys b here)) all own.1)

  hold_themselves : (xs : List (List ℕ)) → AreUnderIds block xs → AreUnderIds (block_at xs) xs
  hold_themselves xs all = under xs xs (λ b here. here) all all

-- ---- of a value that is held

module _ (law : ProofsHold) (h : List ℕ → List ℕ) (rows : List Row) (schema : IsSchema rows) (was : List (List ℕ)) (n : TypeNo) (b : List ℕ) (v : Value) (st : Stands bare (block_at was) h rows n (id_of b) v)
    (own : block_at was (id_of b) ≡ Some b) (path nodes : List (List ℕ)) (held : AreHeld nodes was) where
  abbrev Own : List (List ℕ)
  Own = blocks_of bare h rows n v st.tree

  none_collide : TwoCollide (b ∷ nodes) Own → ⊥
  none_collide c =
      let first = all_contained (λ x. block_at was (id_of x) ≡ Some x) (b ∷ nodes) c.one (own, held) c.first in
      let second = all_contained (λ x. block_at was (id_of x) ≡ Some x) Own c.two st.all c.second in
      c.collide.differ (same_Some c.one c.two (sym first ∙ ap (block_at was) c.collide.one_id ∙ second))

  stands_alone : Stands bare (block_at Own) h rows n (id_of b) v
  stands_alone = record { tree = st.tree; storable = st.storable; root = st.root; all = hold_themselves (block_at was) Own st.all }

  pub answers : (a : Answer) → BlocksSay h rows n (id_of b) path (b ∷ nodes) a → answered h rows 0 (plainly n, v) path ≡ Some a
  answers a says = ⊎_elim (λ is. is) (λ c. absurd (none_collide c)) (law h rows schema n (id_of b) path (b ∷ nodes) a says Own v stands_alone)
