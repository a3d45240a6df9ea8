-- The values of a struct's fields, taken out of the entries one after the other: what is taken doesn't touch the later fields.
use Rattle.std.proofs.Common.{◌≡◌, ◌≢◌, ℕ, zero, suc, ◌+◌, ◌<◌, ◌≤◌, List, [], ◌∷◌, cond, Bool, true, false, length, get_or, map, slice_get, slice_set, Option, Some, None, refl, ap, sym, ◌∙◌, subst, arith}
use Rattle.std.specs.Prelude.{option_map}
use Rattle.std.proofs.lemmas.Option.{same_Some, none-some, slice_get_read}
use Rattle.ild_data.specs.Data.{depth, Members, members_list, members_depth}
use Rattle.ild_data.specs.Key.{put, same_text, value_at}
use Rattle.ild_data.specs.Seen.{data_of, pair_of}
use Rattle.ild_data.specs.declared.tree.Tree.{Tree}
use Rattle.ild_schema.specs.declared.def.Field.{Field}
use Rattle.ild_schema.specs.declared.number.Slot.{Slot}
use Rattle.ild_splice_changes.proofs.Maps.{own_text}
use Rattle.ild_value_meaning.specs.Names.{slot_named}
use Rattle.ild_value_meaning.proofs.Told.{AreProper}
use Rattle.ild_value.proofs.Entries.{value_seen, value_depth}

abbrev pub found_depth : Option Tree → ℕ
found_depth None = 0
found_depth (Some t) = depth (data_of t)

pub found_low : (k : List ℕ) (ms : Members) (o : Option Tree) → option_map data_of o ≡ value_at k (members_list ms) → found_depth o ≤ members_depth ms
found_low k ms None h = omega arith
found_low k ms (Some t) h = value_depth k ms (data_of t) (sym h)

-- the fields from a place on find what the whole map has
abbrev pub AreKept : List Field → ℕ → List (List ℕ × Tree) → Members → Type 0
AreKept fs i ps ms = (j : ℕ) (f : Field) → i ≤ j → slice_get fs j ≡ Some f → option_map data_of (value_at f.name ps) ≡ value_at f.name (members_list ms)

pub kept_first : (fs : List Field) (ps : List (List ℕ × Tree)) (ms : Members) → map pair_of ps ≡ members_list ms → AreKept fs 0 ps ms
kept_first fs ps ms seen = λ j f low there. sym (value_seen f.name ps) ∙ ap (value_at f.name) seen

not_first : (b : Bool) (s : Slot) (o : Option Slot) → cond b (Some s) o ≡ None → (b ≡ false) × (o ≡ None)
not_first true s o h = absurd (none-some s (sym h))
not_first false s o h = (refl, h)

name_first : (k : List ℕ) (f g : Field) → same_text k f.name ≡ false → f ≡ g → k ≢ g.name
name_first k f g e is = λ same. let wrong : true ≡ false = sym (own_text k) ∙ ap (same_text k) (same ∙ ap (λ (h : Field). h.name) (sym is)) ∙ e in absurd cc

other_name : (k : List ℕ) (fs : List Field) (j : ℕ) (g : Field) → slot_named k fs ≡ None → slice_get fs j ≡ Some g → k ≢ g.name
other_name k [] j g none there = absurd (none-some g there)
other_name k (f ∷ fs) zero g none there = name_first k f g (not_first (same_text k f.name) f.slot (slot_named k fs) none).0 (same_Some f g there)
other_name k (f ∷ fs) (suc j) g none there = other_name k fs j g (not_first (same_text k f.name) f.slot (slot_named k fs) none).1 there

apart : (fs : List Field) → AreProper fs → (i j : ℕ) (f g : Field) → i < j → slice_get fs i ≡ Some f → slice_get fs j ≡ Some g → f.name ≢ g.name
apart [] h i j f g low x y = absurd (none-some f x)
apart (e ∷ fs) h zero zero f g low x y = absurd (omega (arith, low))
apart (e ∷ fs) h zero (suc j) f g low x y = other_name f.name fs j g (ap (λ (k : Field). slot_named k.name fs) (sym (same_Some e f x)) ∙ h.0) y
apart (e ∷ fs) h (suc i) zero f g low x y = absurd (omega (arith, low))
apart (e ∷ fs) h (suc i) (suc j) f g low x y = apart fs h.2 i j f g (omega (arith, low)) x y

pub kept_next : (fs : List Field) → AreProper fs → (i : ℕ) (f : Field) (ps qs : List (List ℕ × Tree)) (ms : Members) → slice_get fs i ≡ Some f → ((k : List ℕ) → f.name ≢ k → value_at k qs ≡ value_at k ps) → AreKept fs i ps ms → AreKept fs (i + 1) qs ms
kept_next fs proper i f ps qs ms there others kept = λ j g low at.
    ap (option_map data_of) (others g.name (apart fs proper i j f g (omega (arith, low)) there at)) ∙ kept j g (omega (arith, low)) at

-- the entry at a place is that of the key, so that another value in its place is put at the key
pub nulled : (k : List ℕ) (ps qs : List (List ℕ × Tree)) (i : ℕ) (p : List ℕ × Tree) (v : Tree) → qs ≡ ps → i < length qs → p ≡ get_or ps i p → option_map (λ (q : List ℕ × Tree). q.0) (slice_get qs i) ≡ Some k
    → ((w : Tree) → put k w qs ≡ slice_set qs i (k, w)) → slice_set ps i (p.0, v) ≡ put k v ps
nulled k ps qs i p v same low is key set =
    let there = slice_get_read ps (length ps) i p refl (subst (λ (xs : List (List ℕ × Tree)). i < length xs) same low) is in
    let name : p.0 ≡ k =
    same_Some p.0 k (sym (ap (option_map (λ (q : List ℕ × Tree). q.0)) there) ∙ ap (λ (xs : List (List ℕ × Tree)). option_map (λ (q : List ℕ × Tree). q.0) (slice_get xs i)) (sym same) ∙ key) in
    ap (λ (n : List ℕ). slice_set ps i (n, v)) name ∙ subst (λ (xs : List (List ℕ × Tree)). slice_set xs i (k, v) ≡ put k v xs) same (sym (set v))
