-- The way of a refusal leads to the item that is refused.
use Rattle.std.proofs.Common.{◌≡◌, ℕ, zero, suc, ◌-◌, List, [], ◌∷◌, ◌++◌, Bool, true, false, cond, Option, Some, None, refl, sym, subst, inl, inr}
use Rattle.std.specs.Prelude.{is_some, if◌then◌else◌}
use Rattle.std.specs.List.{AllByRecursion}
use Rattle.std.proofs.lemmas.List.{append-nil}
use Rattle.std.proofs.lemmas.Bool.{or_parts}
use Rattle.ild_data.proofs.AllOf.{all_indexed}
use Rattle.ild_data.specs.Data.{Data}
use Rattle.ild_data.specs.Tree.{IsTree}
use Rattle.ild_schema.specs.declared.number.Slot.{Slot}
use Rattle.ild_schema.specs.declared.def.TypeDef.{TypeDef}
use Rattle.ild_schema.specs.declared.def.TypeDef.TheVariants as D
use Rattle.ild_schema.specs.declared.def.StructForm.{StructForm}
use Rattle.ild_schema.specs.declared.def.StructForm.TheVariants as S
use Rattle.ild_schema.specs.declared.def.Field.{Field}
use Rattle.ild_schema.specs.declared.row.Row.{Row}
use Rattle.ild_schema.specs.Copies.{base}
use Rattle.ild_schema.specs.Places.{first_place}
use Rattle.ild_schema.specs.Rules.{is_bare_join, is_field_wrong}
use Rattle.ild_schema.specs.Value.{Value}
use Rattle.ild_schema.proofs.Legibly.{legible}
use Rattle.ild_schema.proofs.Passing.{all_pass}
use Rattle.ild_schema.proofs.Ruling.{Passes, def_passes}
use Rattle.ild_typed.specs.Fits.{FitsPast}
use Rattle.ild_typed.specs.Pieces.{needs}
use Rattle.ild_typed.specs.Refused.{Refusal, key_refusal, part_refusal, FirstRefused, PieceRefused, RefusedPast}
use Rattle.ild_typed.specs.Schema.{IsSchema}
use Rattle.ild_typed.specs.Spots.{Spot}
use Rattle.ild_typed.specs.Why as W
use Rattle.ild_typed.specs.Why.{Why}
use Rattle.ild_typed.specs.WayLaws.{Leads, IsReached, PartsAreReached, RefusalsAreReached}
use Rattle.ild_typed.proofs.PartsReached.{TuplePlain, parts_reached}
use Rattle.ild_typed.proofs.WaySteps.{itself}
use Rattle.ild_typed.proofs.WalkForms.{table_parts}

-- ---- the fields of a tuple have no implicit values

no_value : {A : Type 0} (o : Option A) → is_some o ≡ false → o ≡ None
no_value None e = refl
no_value (Some a) e = absurd cc

pub tuple_field : (f : Field) → is_field_wrong S.Tuple f ≡ false → f.implicit ≡ None
tuple_field f fine = no_value f.implicit (or_parts (is_some f.rename) (is_some f.implicit) fine).1

pub plain_struct : (form : StructForm) (at : ℕ) (fs : List Field) → (if is_bare_join form fs then Some at else first_place (is_field_wrong form) (λ f. f.at) fs) ≡ None → form ≡ S.Tuple
    → AllByRecursion (λ f. f.implicit ≡ None) fs
plain_struct S.Tuple at fs h is = all_indexed (λ (f : Field). f.implicit ≡ None) fs (λ i f e. tuple_field f (all_pass (is_field_wrong S.Tuple) (λ f. f.at) fs h i f e))
plain_struct S.Map at fs h is = absurd cc
plain_struct S.ListPairs at fs h is = absurd cc
plain_struct (S.StringPairs inner entry) at fs h is = absurd cc
plain_struct (S.StringJoin delim) at fs h is = absurd cc

plain_type : (rows : List Row) (at : ℕ) (d : TypeDef) → Passes rows at d → TuplePlain d
plain_type rows at (D.Struct s) p = plain_struct s.form at s.fields p.strategy
plain_type rows at d p = tt

pub parts_are_reached : PartsAreReached
parts_are_reached rows schema s d is t ps tree parts =
    let n = base rows s.ty.0 in
    let x = def_passes rows schema.accepted.none_fails n d is in
    parts_reached d t ps ((legible rows schema.accepted).clear.types n d is) (plain_type rows x.0 d x.1) tree parts

-- ---- refusals

module _ (rows : List Row) (schema : IsSchema rows) where
  key_leads : (t : Data) (p : Spot) (q : Refusal) (w : Why) → Leads (p.at ++ q.at) t → Leads p.at t → Leads (key_refusal p q w).at t
  key_leads t p q W.Depth on here = on
  key_leads t p q w on here = here

  part_leads : (t : Data) (p : Spot) (q : Refusal) → IsReached t p → Leads q.at p.tree → Leads (part_refusal p q).at t
  part_leads t p q reached own = by p.is_key where
    by : (b : Bool) → Leads (cond b (key_refusal p q q.why) (record { ty = q.ty; why = q.why; at = p.at ++ q.at })).at t
    by true = key_leads t p q q.why (reached q.at own) (subst (λ w. Leads w t) (append-nil p.at) (reached [] (itself p.tree)))
    by false = reached q.at own

  first_leads : (fits : Slot → Value → Type 0) (refused : Slot → Data → Refusal → Type 0) → ((u : Slot) (c : Data) (q : Refusal) → IsTree c → refused u c q → Leads q.at c)
      → (t : Data) (r : Refusal) (ps : List Spot) → AllByRecursion (IsReached t) ps → AllByRecursion (λ p. IsTree p.tree) ps → FirstRefused fits refused rows ps r → Leads r.at t
  first_leads fits refused later t r [] reached trees h = absurd h
  first_leads fits refused later t r (p ∷ ps) reached trees (inl (q, own, e)) =
      subst (λ (x : Refusal). Leads x.at t) (sym e) (part_leads t p q reached.0 (later p.slot p.tree q trees.0 own))
  first_leads fits refused later t r (p ∷ ps) reached trees (inr (shows, h)) = first_leads fits refused later t r ps reached.1 trees.1 h

  piece_leads : (room : ℕ) (fits : ℕ → Slot → Value → Type 0) (refused : ℕ → Slot → Data → Refusal → Type 0) → ((o : ℕ) (u : Slot) (c : Data) (q : Refusal) → IsTree c → refused o u c q → Leads q.at c)
      → (s : Slot) (t : Data) (r : Refusal) → IsTree t → PieceRefused rows room fits refused s t r → Leads r.at t
  piece_leads room fits refused later s t r tree (there, d, is, inl (w, why, e)) = subst (λ (x : Refusal). Leads x.at t) (sym e) (itself t)
  piece_leads room fits refused later s t r tree (there, d, is, inr (none, ps, parts, first)) =
      first_leads (fits (needs d t - 1)) (refused (needs d t - 1)) (later (needs d t - 1)) t r ps (parts_are_reached rows schema s d is t ps tree parts) (table_parts rows schema s d is t ps tree parts) first

  past_leads : (room over : ℕ) (s : Slot) (t : Data) (r : Refusal) → IsTree t → RefusedPast rows room over s t r → Leads r.at t
  unfolding RefusedPast
  past_leads zero zero s t r tree h = piece_leads zero (λ over u w. ⊥) (λ over u d q. ⊥) (λ o u c q x b. absurd b) s t r tree h
  past_leads zero (suc over) s t r tree h = absurd h
  past_leads (suc room) zero s t r tree h = piece_leads (suc room) (FitsPast rows room) (RefusedPast rows room) (past_leads room) s t r tree h
  past_leads (suc room) (suc over) s t r tree h = past_leads room over s t r tree h

pub refusals_are_reached : RefusalsAreReached
refusals_are_reached rows schema room s t r tree h = past_leads rows schema room zero s t r tree h
