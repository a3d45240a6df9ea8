-- Fields and members that are looked up by their names.
use Rattle.std.proofs.Common.{cond, ◌≡◌, ℕ, zero, suc, ◌+◌, ◌<◌, List, [], ◌∷◌, length, take, get_or, Bool, true, false, map, slice_get, Option, Some, None, refl, ap, sym, ◌∙◌, subst, arith, add-one}
use Rattle.std.specs.Prelude.{◌&&◌, MatchOption, is_some, option_map, option_and_then, bytes_eq}
use Rattle.std.specs.List.{position_from}
use Rattle.std.proofs.lemmas.Option.{same_Some, none-some, slice_get_read}
use Rattle.ild_data.specs.Data.{Members, members_of, members_list}
use Rattle.ild_data.specs.Key.{same_text}
use Rattle.ild_data.specs.Seen.{pair_of}
use Rattle.ild_data.specs.declared.tree.Tree.{Tree}
use Rattle.ild_data.proofs.Lists.{members_of-members_list}
use Rattle.ild_schema.specs.declared.def.Field.{Field}
use Rattle.ild_schema.specs.declared.def.Member.{Member}
use Rattle.ild_schema.specs.declared.def.StructDef.{StructDef}
use Rattle.ild_schema.specs.declared.def.UnionDef.{UnionDef}
use Rattle.ild_schema.specs.declared.def.TypeDef.TheVariants as T
use Rattle.ild_schema.specs.declared.number.Slot.{Slot}
use Rattle.ild_schema.specs.declared.row.Row.{Row}
use Rattle.ild_schema.specs.Parts.{part_named}
use Rattle.ild_schema.specs.Slots.{form_of}
use Rattle.ild_typed.specs.Segment.{member_named, next_member}
use Rattle.ild_value_meaning.specs.Names.{slot_named, are_named}
use Rattle.ild_value_meaning.proofs.Members.{member-named}
use Rattle.ild_value.specs.inside.Parts.{IsMemberNamed}

-- ---- fields

some_by : (b : Bool) (s : Slot) (k : ℕ) (o : Option ℕ) (q : Option Slot) → is_some q ≡ is_some o → is_some (cond b (Some s) q) ≡ is_some (cond b (Some k) o)
some_by true s k o q h = refl
some_by false s k o q h = h

field_place : (k : List ℕ) (fs : List Field) (i : ℕ) → is_some (slot_named k fs) ≡ is_some (position_from (λ (f : Field). bytes_eq k f.name) i fs)
field_place k [] i = refl
field_place k (f ∷ fs) i = some_by (same_text k f.name) f.slot i (position_from (λ (f : Field). bytes_eq k f.name) (i + 1) fs) (slot_named k fs) (field_place k fs (i + 1))

pub field_found : (rows : List Row) (slot : Slot) (s : StructDef) (k : List ℕ) (r : Option ℕ) → form_of rows slot ≡ Some (T.Struct s) → r ≡ option_and_then (part_named k) (form_of rows slot) → is_some r ≡ is_some (slot_named k s.fields)
field_found rows slot s k r f h = ap is_some (h ∙ ap (option_and_then (part_named k)) f) ∙ sym (field_place k s.fields 0)

and_more : (a b c : Bool) → (a && b) ≡ true → (b ≡ true → c ≡ true) → (a && c) ≡ true
and_more true b c h rest = rest h
and_more false b c h rest = h

and_false : (a b : Bool) → b ≡ false → (a && b) ≡ false
and_false true b h = h
and_false false b h = refl

named_next : (fs : List Field) (ps : List (List ℕ × Tree)) (i : ℕ) (p : List ℕ × Tree) → slice_get ps i ≡ Some p → is_some (slot_named p.0 fs) ≡ true → are_named fs (members_of (map pair_of (take i ps))) ≡ true
    → are_named fs (members_of (map pair_of (take (suc i) ps))) ≡ true
named_next fs [] i p e h all = absurd (none-some p e)
named_next fs (q ∷ ps) zero p e h all = ap (λ b. b && true) (ap (λ (x : List ℕ × Tree). is_some (slot_named x.0 fs)) (same_Some q p e) ∙ h)
named_next fs (q ∷ ps) (suc i) p e h all = and_more (is_some (slot_named q.0 fs)) _ _ all (λ g. named_next fs ps i p e h g)

named_stop : (fs : List Field) (ps : List (List ℕ × Tree)) (i : ℕ) (p : List ℕ × Tree) → slice_get ps i ≡ Some p → is_some (slot_named p.0 fs) ≡ false → are_named fs (members_of (map pair_of ps)) ≡ false
named_stop fs [] i p e h = absurd (none-some p e)
named_stop fs (q ∷ ps) zero p e h = ap (λ b. b && are_named fs (members_of (map pair_of ps))) (ap (λ (x : List ℕ × Tree). is_some (slot_named x.0 fs)) (same_Some q p e) ∙ h)
named_stop fs (q ∷ ps) (suc i) p e h = and_false (is_some (slot_named q.0 fs)) (are_named fs (members_of (map pair_of ps))) (named_stop fs ps i p e h)

pub named_more : (fs : List Field) (ps : List (List ℕ × Tree)) (i : ℕ) (p : List ℕ × Tree) (b : Bool) (k : List ℕ) → i < length ps → p ≡ get_or ps i p → k ≡ p.0 → b ≡ is_some (slot_named k fs) → b ≡ true
    → are_named fs (members_of (map pair_of (take i ps))) ≡ true → are_named fs (members_of (map pair_of (take (i + 1) ps))) ≡ true
named_more fs ps i p b k low is key same h all =
    rw add-one (named_next fs ps i p (slice_get_read ps (length ps) i p refl low is) (ap (λ k. is_some (slot_named k fs)) (sym key) ∙ sym same ∙ h) all)

pub named_not : (fs : List Field) (ps : List (List ℕ × Tree)) (ms : Members) (i : ℕ) (p : List ℕ × Tree) (b : Bool) (k : List ℕ) → map pair_of ps ≡ members_list ms → i < length ps → p ≡ get_or ps i p → k ≡ p.0 → b ≡ is_some (slot_named k fs) → b ≡ false
    → are_named fs ms ≡ false
named_not fs ps ms i p b k seen low is key same h =
    ap (are_named fs) (sym (members_of-members_list ms) ∙ ap members_of (sym seen))
    ∙ named_stop fs ps i p (slice_get_read ps (length ps) i p refl low is) (ap (λ k. is_some (slot_named k fs)) (sym key) ∙ sym same ∙ h)

pub named_whole : (fs : List Field) (ps : List (List ℕ × Tree)) (ms : Members) (qs : List (List ℕ × Tree)) → map pair_of ps ≡ members_list ms → qs ≡ ps → are_named fs (members_of (map pair_of qs)) ≡ true → are_named fs ms ≡ true
named_whole fs ps ms qs seen same h = ap (are_named fs) (sym (members_of-members_list ms) ∙ ap members_of (sym seen ∙ ap (map pair_of) (sym same))) ∙ h

-- ---- members

place_by : (k : ℕ) (b : Bool) (m : Member) (o : Option (ℕ × Member)) (p : Option ℕ) → p ≡ option_map (λ (q : ℕ × Member). k + 1 + q.0) o → cond b (Some k) p ≡ option_map (λ (q : ℕ × Member). k + q.0) (cond b (Some (0, m)) (option_map next_member o))
place_by k true m o p h = ap Some (omega arith)
place_by k false m None p h = h
place_by k false m (Some q) p h = let e : k + 1 + q.0 ≡ k + suc q.0 = omega arith in h ∙ ap Some e

member_place : (s : List ℕ) (ms : List Member) (k : ℕ) → position_from (λ (m : Member). bytes_eq s m.name) k ms ≡ option_map (λ (q : ℕ × Member). k + q.0) (member_named s ms)
member_place s [] k = refl
member_place s (m ∷ ms) k = place_by k (same_text s m.name) m (member_named s ms) (position_from (λ (m : Member). bytes_eq s m.name) (k + 1) ms) (member_place s ms (k + 1))

pub member_found : (rows : List Row) (slot : Slot) (u : UnionDef) (k : List ℕ) (r : Option ℕ) → form_of rows slot ≡ Some (T.Union u) → r ≡ option_and_then (part_named k) (form_of rows slot)
    → MatchOption r (member_named k u.members ≡ None) (IsMemberNamed k u.members)
member_found rows slot u k r f h =
    subst (λ o. MatchOption o (member_named k u.members ≡ None) (IsMemberNamed k u.members)) (sym (h ∙ ap (option_and_then (part_named k)) f ∙ member_place k u.members 0)) (by (member_named k u.members) refl)
  where
    by : (o : Option (ℕ × Member)) → member_named k u.members ≡ o → MatchOption (option_map (λ (q : ℕ × Member). 0 + q.0) o) (member_named k u.members ≡ None) (IsMemberNamed k u.members)
    by None e = e
    by (Some q) e =
        let same : q.0 ≡ 0 + q.0 = omega arith in
        subst (IsMemberNamed k u.members) same (record { member = q.1; there = (member-named k u.members q e).placed; named = e })
