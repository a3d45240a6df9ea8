-- What a store and a batch carry together.
use Rattle.std.proofs.Common.{◌≡◌, ◌≢◌, ◌⊎◌, inl, inr, ⊎_elim, ℕ, zero, suc, List, [], ◌∷◌, ◌++◌, map, Bool, true, false, cond, Option, Some, None, refl, sym, ap, ◌∙◌, subst, arith}
use Rattle.std.specs.Prelude.{Contains, option_map}
use Rattle.std.specs.List.{AllByRecursion}
use Rattle.std.specs.Option.{option_map_or}
use Rattle.std.specs.Cmp.Lexicographic.{nat_list_eq_equiv}
use Rattle.std.proofs.lemmas.Option.{none-some}
use Rattle.ild_data.proofs.AllOf.{all_contained}
use Rattle.ild_data.specs.Data.{Data}
use Rattle.ild_data.specs.Key.{same_text}
use Rattle.ild_data.specs.Spell.{id_of}
use Rattle.ild_dirty.proofs.Batching.{Contains-map, block_at-among, own_first}
use Rattle.ild_edges.specs.Gained.{AreHeld}
use Rattle.ild_edges.specs.Store.{Moment, block_at}
use Rattle.ild_edges.specs.Told.{IfTold}
use Rattle.ild_schema.specs.Value.{Value}
use Rattle.ild_typed.specs.Stands.{blocks_of}
use Rattle.ild_typed_places.specs.Places.{Place, down_from, each_place, value_places}
use Rattle.ild_typed_places.proofs.Joining.{down_each}
use Rattle.ild_typed_places.proofs.Listing.{all_mapped}
use Rattle.ild_typed_places.proofs.Telling.{to_places}
use Rattle.ild_script_meaning.specs.Lines.{Setting, in_slot, places_in, tree_in, value_blocks}
use Rattle.ild_script_session.specs.Step.{AreCarried, Holds}
use Rattle.ild_script_batch.specs.Inside.{CarriedOverBatch}

-- ---- what is held

abbrev IsHeld : List (List ℕ) → List ℕ → Type 0
IsHeld held b = block_at held (id_of b) ≡ Some b

pub holds_same : (a b : Option (List (List ℕ))) (bs : List (List ℕ)) → b ≡ a → IfTold a (AreHeld bs) → IfTold b (AreHeld bs)
holds_same a b bs same all = subst (λ (o : Option (List (List ℕ))). IfTold o (AreHeld bs)) (sym same) all

-- the block of a place, and all from there on down
abbrev listed : Place → List ℕ × List (List ℕ)
listed q = (q.0, down_from q)

abbrev places_by : Setting → Value → Option Data → List (List ℕ × List (List ℕ))
places_by w v o = option_map_or (λ d. map (λ q. (q.0, down_from q)) (each_place (value_places w.frame w.hash w.rows w.ty v d))) o []

abbrev blocks_by : Setting → Value → Option Data → List (List ℕ)
blocks_by w v o = option_map_or (λ d. blocks_of w.frame w.hash w.rows w.ty v d) o []

-- of a value that is held each place is, whatever the batch holds of its own
places_told : (w : Setting) (v : Value) (held : List (List ℕ)) (o : Option Data) → AreHeld (blocks_by w v o) held → AllByRecursion (λ p. Contains [] p.0 ⊎ AreHeld p.1 held) (places_by w v o)
places_told w v held None all = tt
places_told w v held (Some d) all =
    let down = down_each (IsHeld held) (value_places w.frame w.hash w.rows w.ty v d) (to_places (IsHeld held) w.frame w.hash w.rows w.ty v d all) in
    all_mapped (λ (p : List ℕ × List (List ℕ)). Contains [] p.0 ⊎ AreHeld p.1 held) (λ (q : Place). (q.0, down_from q)) (each_place (value_places w.frame w.hash w.rows w.ty v d)) (right (each_place (value_places w.frame w.hash w.rows w.ty v d)) down) where
      right : (qs : List Place) → AllByRecursion (λ q. AreHeld (down_from q) held) qs → AllByRecursion (λ q. Contains [] q.0 ⊎ AreHeld (down_from q) held) qs
      right [] all = tt
      right (q ∷ qs) all = (inr all.0, right qs all.1)

-- where nothing is told, nothing is asked
untold : (ps : List (List ℕ × List (List ℕ))) → AllByRecursion (λ p. Contains [] p.0 ⊎ Unit {0}) ps
untold [] = tt
untold (p ∷ ps) = (inr tt, untold ps)

pub carried_by : (w : Setting) (v : Value) (o : Option (List (List ℕ))) → IfTold o (λ held. AreHeld (value_blocks w v) held) → AllByRecursion (λ p. Contains [] p.0 ⊎ IfTold o (λ held. AreHeld p.1 held)) (places_in w v)
carried_by w v None all = untold (places_in w v)
carried_by w v (Some held) all = places_told w v held (tree_in w (in_slot w v)) all

pub carried_over_batch : CarriedOverBatch
carried_over_batch = λ w m v kept owed own g p x c. record {
  kept = c.value;
  value = c.value;
  places = carried_by w v (option_map (λ held. own ++ held) m.blocks) c.value;
}

-- ---- what is carried then

found_by : (t : Bool) (x id : List ℕ) (rest : Option (List ℕ)) → t ≡ same_text (id_of x) id → (id_of x ≡ id) ⊎ (rest ≢ None) → cond t (Some x) rest ≢ None
found_by true x id rest is either = λ e. none-some x (sym e)
found_by false x id rest is (inl same) = absurd (let bad : false ≡ true = is ∙ ap (λ (y : List ℕ). same_text y id) same ∙ nat_list_eq_equiv.refl id in cc)
found_by false x id rest is (inr more) = more

-- a block of a given id is found
given_found : (own : List (List ℕ)) (id : List ℕ) → Contains (map id_of own) id → block_at own id ≢ None
given_found [] id is = absurd (omega (arith, is.1))
given_found (x ∷ own) id (zero, lt, is) = found_by (same_text (id_of x) id) x id (block_at own id) refl (inl is)
given_found (x ∷ own) id (suc k, lt, is) = found_by (same_text (id_of x) id) x id (block_at own id) refl (inr (given_found own id (k, omega (arith, lt), is)))

-- a block that is held together, and whose id is given, is one of the batch's own
own_of : (own held : List (List ℕ)) (b : List ℕ) → Contains (map id_of own) (id_of b) → IsHeld (own ++ held) b → Contains own b
own_of own held b given here = by (block_at own (id_of b)) refl where
  by : (o : Option (List ℕ)) → o ≡ block_at own (id_of b) → Contains own b
  by None is = absurd (given_found own (id_of b) given (sym is))
  by (Some c) is = block_at-among own (id_of b) b (sym is ∙ sym (own_first own held (id_of b) c (sym is)) ∙ here)

-- each place of the next value has an id that is given, or was a place before
pub carried_then : (m n : Moment) (was now held : List (List ℕ)) (before after : List (List ℕ × List (List ℕ))) → n.blocks ≡ m.blocks → ((id : List ℕ) → Contains (map id_of was) id → Contains (map id_of now) id)
    → AreCarried m was before → AllByRecursion (λ p. IsHeld (now ++ held) p.0) after → AllByRecursion (λ p. Contains (map id_of now) (id_of p.0) ⊎ Contains before p) after → AreCarried n now after
carried_then m n was now held before [] same grown carried heads passed = tt
carried_then m n was now held before (p ∷ after) same grown carried heads passed = (
  ⊎_elim
      (λ given. inl (own_of now held p.0 given heads.0))
      (λ there. ⊎_elim
      (λ own. inl (own_of now held p.0 (grown (id_of p.0) (Contains-map id_of was p.0 own)) heads.0))
      (λ holds. inr (holds_same m.blocks n.blocks p.1 same holds))
      (all_contained (λ (q : List ℕ × List (List ℕ)). Contains was q.0 ⊎ Holds m q.1) before p carried there))
      passed.0,
  carried_then m n was now held before after same grown carried heads.1 passed.1,
)

-- the block of each place is held where all from there on down are
heads_by : (w : Setting) (v : Value) (held : List (List ℕ)) (o : Option Data) → AreHeld (blocks_by w v o) held → AllByRecursion (λ p. IsHeld held p.0) (places_by w v o)
heads_by w v held None all = tt
heads_by w v held (Some d) all =
    let down = down_each (IsHeld held) (value_places w.frame w.hash w.rows w.ty v d) (to_places (IsHeld held) w.frame w.hash w.rows w.ty v d all) in
    all_mapped (λ (p : List ℕ × List (List ℕ)). IsHeld held p.0) (λ (q : Place). (q.0, down_from q)) (each_place (value_places w.frame w.hash w.rows w.ty v d)) (first (each_place (value_places w.frame w.hash w.rows w.ty v d)) down) where
      first : (qs : List Place) → AllByRecursion (λ q. AreHeld (down_from q) held) qs → AllByRecursion (λ q. IsHeld held q.0) qs
      first [] all = tt
      first (q ∷ qs) all = (all.0.0, first qs all.1)

pub heads_held : (w : Setting) (v : Value) (held : List (List ℕ)) → AreHeld (value_blocks w v) held → AllByRecursion (λ p. block_at held (id_of p.0) ≡ Some p.0) (places_in w v)
heads_held w v held all = heads_by w v held (tree_in w (in_slot w v)) all
