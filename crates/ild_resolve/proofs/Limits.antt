-- A text without too many types or parts.
use Rattle.std.proofs.Common.{◌≡◌, ℕ, suc, ◌+◌, ◌<◌, ◌≤◌, Bool, true, false, cond, ltb, List, [], ◌∷◌, ◌++◌, Option, Some, None, refl, arith}
use Rattle.std.specs.Option.{option_or}
use Rattle.std.specs.Prelude.{option_map}
use Rattle.std.proofs.lemmas.Bool.{ltb-true}
use Rattle.ild_data.proofs.Options.{map_none}
use Rattle.ild_resolve.specs.declared.error.ResolveErr.TheVariants as E
use Rattle.ild_resolve.specs.Events.{Event, declares, begins, part, types_in}
use Rattle.ild_resolve.specs.Faults.{first_above, first_again, taken_names, declared_fault, first_wrong, fault_in}
use Rattle.ild_resolve.specs.Names.{number_of}

-- each part is among the first 1,024 of its type
abbrev pub FewParts : List Event → Type 0
FewParts [] = Unit {0}
FewParts (part at before ∷ es) = (before < 1024) × FewParts es
FewParts (e ∷ es) = FewParts es

pub few_left : (es fs : List Event) → FewParts (es ++ fs) → FewParts es
few_left [] fs h = tt
few_left (part at before ∷ es) fs h = (h.0, few_left es fs h.1)
few_left (e ∷ es) fs h = few_left es fs h

pub few_right : (es fs : List Event) → FewParts (es ++ fs) → FewParts fs
few_right [] fs h = h
few_right (part at before ∷ es) fs h = few_right es fs h.1
few_right (e ∷ es) fs h = few_right es fs h

below : (b : Bool) (more : Option ℕ) (at : ℕ) → cond b more (Some at) ≡ None → (b ≡ true) × (more ≡ None)
below true more at h = (refl, h)
below false more at h = absurd cc

pub few_parts : (types : ℕ) (es : List Event) → first_above types es ≡ None → FewParts es
few_parts types [] h = tt
few_parts types (declares t ∷ es) h = few_parts (suc types) es (below (ltb types 65535) (first_above (suc types) es) t.at h).1
few_parts types (begins at ∷ es) h = few_parts (suc types) es (below (ltb types 65535) (first_above (suc types) es) at h).1
few_parts types (part at before ∷ es) h =
    let both = below (ltb before 1024) (first_above types es) at h in
    (ltb-true before 1024 both.0, few_parts types es both.1)
few_parts types (e ∷ es) h = few_parts types es h

few_types : (types : ℕ) (es : List Event) → first_above types es ≡ None → types ≤ 65535 → types + types_in es ≤ 65535
few_types types [] h le = omega arith
few_types types (declares t ∷ es) h le =
    let both = below (ltb types 65535) (first_above (suc types) es) t.at h in
    omega (arith, few_types (suc types) es both.1 (ltb-true types 65535 both.0))
few_types types (begins at ∷ es) h le =
    let both = below (ltb types 65535) (first_above (suc types) es) at h in
    omega (arith, few_types (suc types) es both.1 (ltb-true types 65535 both.0))
few_types types (part at before ∷ es) h le = few_types types es (below (ltb before 1024) (first_above types es) at h).1 le
few_types types (e ∷ es) h le = few_types types es h le

pub types_few : (es : List Event) → first_above 0 es ≡ None → types_in es ≤ 65535
types_few es h = omega (arith, few_types 0 es h (omega arith))

-- ---- no fault at all is none of each sort

neither : {A : Type 0} (o p : Option A) → option_or o p ≡ None → (o ≡ None) × (p ≡ None)
neither None p h = (refl, h)
neither (Some x) p h = absurd cc

-- no limit is passed, and no name declared again
pub record IsDeclared (es : List Event) : Type 0 where
  pub above : first_above 0 es ≡ None
  pub again : first_again taken_names es ≡ None

pub none_declared : (es : List Event) → declared_fault es ≡ None → IsDeclared es
none_declared es h =
    let both = neither (option_map E.Many (first_above 0 es)) (option_map E.Twice (first_again taken_names es)) h in
    record { above = map_none E.Many (first_above 0 es) both.0; again = map_none E.Twice (first_again taken_names es) both.1 }

pub no_faults : (es : List Event) → fault_in es ≡ None → (declared_fault es ≡ None) × (first_wrong (λ name. number_of name es) es ≡ None)
no_faults es h = neither (declared_fault es) (first_wrong (λ name. number_of name es) es) h
