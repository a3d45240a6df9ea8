-- Whole blocks, and what follows for spellings.
use Rattle.std.proofs.Common.{inl, inr, ◌≡◌, ℕ, ◌≤◌, false, ltb, List, [], ◌∷◌, ◌++◌, length, drop, Some, None, Result, Ok, Err, refl, sym, ap, subst, ◌∙◌, append-nil, arith}
use Rattle.std.specs.Prelude.{◌==◌}
use Rattle.std.proofs.lemmas.Bool.{eqb-true, ltb-false, le-ltb}
use Rattle.std.proofs.lemmas.List.{drop_at}
use Rattle.ild_data.specs.Bytes.{AreBytes}
use Rattle.ild_data.specs.Data.{Data}
use Rattle.ild_data.specs.Spell.{spell}
use Rattle.ild_data.specs.Limits.{IsWithin, deepest, longest_block}
use Rattle.ild_data.proofs.Apart.{one_spelling}
use Rattle.ild_cbor.specs.declared.fault.Stop.{Stop}
use Rattle.ild_cbor.specs.declared.fault.CborKind.TheVariants.{Rest, Size}
use Rattle.ild_cbor.specs.Reading.{◌>>=◌, demand, stop_at, item_at, all_at, fault_in, fault_of}
use Rattle.ild_cbor.specs.Spelled.{Holds, Spells}
use Rattle.ild_cbor.specs.Block.{IsBlockOf}
use Rattle.ild_cbor.proofs.Steps.{bind_ok, demand_ok, chosen, ok_is}
use Rattle.ild_cbor.proofs.Again.{item_again}
use Rattle.ild_cbor.proofs.Taken.{item_taken}

pub all_again : (b : List ℕ) (d : Data) → IsBlockOf b d → all_at b ≡ Ok d
unfolding all_at
all_again b d h =
    let w = h.within in
    let sized = w.sized in
    let spelled : spell d ++ [] ≡ b = append-nil (spell d) ∙ sym h.spelled in
    let read : item_at deepest b ≡ Ok (d, []) = subst (λ (c : List ℕ). item_at deepest c ≡ Ok (d, [])) spelled (item_again deepest d [] w.tree w.nested (omega arith)) in
    rw read refl

-- the spelling of a tree within the limits has no fault
pub block_again : (b : List ℕ) (d : Data) → IsBlockOf b d → fault_of b ≡ None
unfolding fault_of
block_again b d h =
    let w = h.within in
    let sized = w.sized in
    let len : length b ≡ length (spell d) = ap length h.spelled in
    let size : ltb longest_block (length b) ≡ false = le-ltb longest_block (length b) (omega arith) in
    rw (size, all_again b d h) refl

no_rest : (s : List ℕ) → length s ≡ 0 → s ≡ []
no_rest [] e = refl
no_rest (c ∷ s) e = absurd (omega arith)

none_in : (n : ℕ) (r : Result Data Stop) → fault_in n r ≡ None → (d : Data) × (r ≡ Ok d)
none_in n (Ok d) e = (d, refl)
none_in n (Err s) e = absurd cc

all_taken : (b : List ℕ) (d : Data) → AreBytes b → length b ≤ longest_block → all_at b ≡ Ok d → IsBlockOf b d
unfolding all_at
all_taken b d fits size e =
    let x = bind_ok (item_at deepest b) (λ x. demand (length x.1 == 0) (stop_at Rest x.1) >>= λ u. Ok x.0) d e in
    let w = demand_ok (length x.0.1 == 0) (stop_at Rest x.0.1) (Ok x.0.0) d x.2 in
    let took = item_taken deepest b x.0 fits x.1 in
    let none : x.0.1 ≡ [] = no_rest x.0.1 (eqb-true _ _ w.0) in
    let is : x.0.0 ≡ d = ok_is x.0.0 d w.1 in
    let whole : b ≡ spell x.0.0 = took.takes.parts ∙ ap (λ (s : List ℕ). spell x.0.0 ++ s) none ∙ append-nil (spell x.0.0) in
    let len : length b ≡ length (spell x.0.0) = ap length whole in
    subst (IsBlockOf b) is (record { within = record { tree = took.tree; nested = omega (arith, took.shallow); sized = omega arith }; spelled = whole })

-- what has no fault is the spelling of a tree within the limits
pub block_taken : (b : List ℕ) → AreBytes b → fault_of b ≡ None → (d : Data) × IsBlockOf b d
unfolding fault_of
block_taken b fits e =
    elim (chosen (ltb longest_block (length b)) (Some (record { kind = Size; at = longest_block })) (fault_in (length b) (all_at b)) None e) [
      | inl a ↦ absurd cc
      | inr a ↦
          let d = none_in (length b) (all_at b) a.1 in
          (d.0, all_taken b d.0 fits (ltb-false _ _ a.0) d.1)
    ]

-- no spelling of a tree within the limits begins another
pub one_spelling_within : (d e : Data) (x y : List ℕ) → IsWithin d → IsWithin e → spell d ++ x ≡ spell e ++ y → (d ≡ e) × (x ≡ y)
one_spelling_within d e x y u v same =
    let a = u.sized in
    let b = v.sized in
    one_spelling d e x y u.tree v.tree (omega arith) (omega arith) same

-- what stands at a place of a block begins the block from there on
pub held_from : (block piece : List ℕ) (from : ℕ) (h : Holds block from piece) → drop from block ≡ piece ++ h.after
held_from block piece from h = ap (drop from) h.is ∙ drop_at h.before (piece ++ h.after) from h.place

pub one_tree_lem : (block : List ℕ) (from to to' : ℕ) (d e : Data) → Spells block from to d → Spells block from to' e → d ≡ e
one_tree_lem block from to to' d e p q =
    (one_spelling_within d e p.holds.after q.holds.after p.within q.within (sym (held_from block (spell d) from p.holds) ∙ held_from block (spell e) from q.holds)).0

-- the one item of a block
pub root_spells : (b : List ℕ) (d : Data) → IsBlockOf b d → Spells b 0 (length b) d
root_spells b d h =
    let len : length b ≡ length (spell d) = ap length h.spelled in
    record { holds = record { before = []; after = []; is = h.spelled ∙ sym (append-nil (spell d)); place = refl }; end = omega arith; within = h.within }
