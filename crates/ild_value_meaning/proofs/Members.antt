-- The member that is found by a name.
use Rattle.std.proofs.Common.{cond, ◌≡◌, ℕ, List, [], ◌∷◌, slice_get, Bool, true, false, Option, Some, None, refl}
use Rattle.std.specs.Prelude.{option_map}
use Rattle.std.proofs.lemmas.Option.{same_Some, none-some}
use Rattle.ild_data.specs.Key.{same_text}
use Rattle.ild_schema.specs.declared.def.Member.{Member}
use Rattle.ild_typed.specs.Segment.{member_named, next_member}

pub record IsNamed (k : List ℕ) (ms : List Member) (p : ℕ × Member) : Type 0 where
  pub placed : slice_get ms p.0 ≡ Some p.1
  pub named : same_text k (p.1).name ≡ true

named_behind : (k : List ℕ) (m : Member) (ms : List Member) (p : ℕ × Member) (o : Option (ℕ × Member)) → option_map next_member o ≡ Some p
    → ((q : ℕ × Member) → o ≡ Some q → IsNamed k ms q) → IsNamed k (m ∷ ms) p
named_behind k m ms p None h rest = absurd (none-some p h)
named_behind k m ms p (Some q) h rest =
    let r = rest q refl in
    let a : IsNamed k (m ∷ ms) (next_member q) = record { placed = r.placed; named = r.named } in
    rw (same_Some (next_member q) p h) at a

named_first : (k : List ℕ) (m : Member) (ms : List Member) (p : ℕ × Member) (b : Bool) → same_text k m.name ≡ b → cond b (Some (0, m)) (option_map next_member (member_named k ms)) ≡ Some p
    → ((q : ℕ × Member) → member_named k ms ≡ Some q → IsNamed k ms q) → IsNamed k (m ∷ ms) p
named_first k m ms p true e h rest =
    let a : IsNamed k (m ∷ ms) (0, m) = record { placed = refl; named = e } in
    rw (same_Some (0, m) p h) at a
named_first k m ms p false e h rest = named_behind k m ms p (member_named k ms) h rest

pub member-named : (k : List ℕ) (ms : List Member) (p : ℕ × Member) → member_named k ms ≡ Some p → IsNamed k ms p
member-named k [] p h = absurd (none-some p h)
member-named k (m ∷ ms) p h = named_first k m ms p (same_text k m.name) refl h (λ q g. member-named k ms q g)
