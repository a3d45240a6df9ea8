-- Steps from an item to those in it, and what stands in the rest of a list or of some entries.
use Rattle.std.proofs.Common.{◌≡◌, ℕ, zero, suc, ◌+◌, List, [], ◌∷◌, ◌++◌, length, Bool, true, false, cond, Some, None, refl, sym, ◌∙◌, ap, subst, arith}
use Rattle.std.specs.Prelude.{slice_get, option_and_then}
use Rattle.std.specs.List.{AllByRecursion}
use Rattle.std.specs.Cmp.Lexicographic.{same_text as text_same}
use Rattle.std.proofs.lemmas.List.{append-nil}
use Rattle.std.proofs.lemmas.Option.{same_Some, none-some}
use Rattle.ild_data.specs.Data as T
use Rattle.ild_data.specs.Data.{Data}
use Rattle.ild_data.specs.Key.{same_text, value_at}
use Rattle.ild_data.specs.Spell.{head, spell, spell_text}
use Rattle.ild_schema.specs.declared.def.Scalar.{Scalar}
use Rattle.ild_schema.specs.declared.def.Scalar.TheVariants as C
use Rattle.ild_typed.specs.Strings.{map_data}
use Rattle.ild_typed.specs.Spots.{Step, Spot, item, key, under}
use Rattle.ild_typed.specs.Ways.{moved, item_in, key_in, value_in, step_in, found_at}
use Rattle.ild_typed.specs.WayLaws.{Leads, IsReached}
use Rattle.ild_typed.proofs.Structs.{scalar_data}

-- ---- steps

-- a step leads so, and the way behind it further
pub steps_on : (s : Step) (way : List Step) (d : Data) (o : ℕ) (e : Data) → step_in s d ≡ Some (o, e) → Leads way e → Leads (s ∷ way) d
steps_on s way d o e is (q, there) =
    ((o + q.0, q.1), ap (λ p. option_and_then (λ (r : ℕ × Data). moved r.0 (found_at way r.1)) p) is ∙ ap (moved o) there)

-- data without parts
abbrev pub IsBare : Data → Type 0
IsBare d = (s : Step) → step_in s d ≡ None

pub bare_text : (x : List ℕ) → IsBare (T.text x)
bare_text x (item n) = refl
bare_text x (key k) = refl
bare_text x (under k) = refl

pub bare_bytes : (x : List ℕ) → IsBare (T.bytes x)
bare_bytes x (item n) = refl
bare_bytes x (key k) = refl
bare_bytes x (under k) = refl

pub bare_scalar : (s : Scalar) → IsBare (scalar_data s)
bare_scalar (C.Bool b) (item n) = refl
bare_scalar (C.Bool b) (key k) = refl
bare_scalar (C.Bool b) (under k) = refl
bare_scalar (C.Int b) (item n) = refl
bare_scalar (C.Int b) (key k) = refl
bare_scalar (C.Int b) (under k) = refl
bare_scalar (C.Text b) (item n) = refl
bare_scalar (C.Text b) (key k) = refl
bare_scalar (C.Text b) (under k) = refl

pub no_way : (way : List Step) (d : Data) → IsBare d → Leads way d → way ≡ []
no_way [] d bare l = refl
no_way (s ∷ way) d bare (q, there) =
    absurd (none-some q (sym (ap (λ p. option_and_then (λ (r : ℕ × Data). moved r.0 (found_at way r.1)) p) (bare s)) ∙ there))

pub itself : (d : Data) → Leads [] d
itself d = ((0, d), refl)

-- a part without parts, where its own way leads
pub bare_reached : (t : Data) (p : Spot) → IsBare p.tree → Leads p.at t → IsReached t p
bare_reached t p bare l = λ way there. subst (λ w. Leads w t) (sym (ap (λ w. p.at ++ w) (no_way way p.tree bare there) ∙ append-nil p.at)) l

pub item_found : (ds : List Data) (n : ℕ) (e : Data) → slice_get ds n ≡ Some e → (o : ℕ) × (item_in n (T.items_of ds) ≡ Some (o, e))
item_found [] n e h = absurd (none-some e h)
item_found (d ∷ ds) zero e h = (0, ap (λ x. Some (0, x)) (same_Some d e h))
item_found (d ∷ ds) (suc n) e h = let x = item_found ds n e h in (length (spell d) + x.0, ap (moved (length (spell d))) x.1)

pub to_item : (ds : List Data) (n : ℕ) (e : Data) (way : List Step) → slice_get ds n ≡ Some e → Leads way e → Leads (item n ∷ way) (T.list (T.items_of ds))
to_item ds n e way h l =
    let x = item_found ds n e h in
    let front = length (head 4 (length (T.items_list (T.items_of ds)))) in
    steps_on (item n) way (T.list (T.items_of ds)) (front + x.0) e (ap (moved front) x.1) l

pub value_found : (es : List (List ℕ × Data)) (k : List ℕ) (e : Data) → value_at k es ≡ Some e → (o : ℕ) × (value_in k (T.members_of es) ≡ Some (o, e))
value_found [] k e h = absurd (none-some e h)
value_found (m ∷ es) k e h = by (same_text k m.0) h (value_found es k e) where
  by : (b : Bool) → cond b (Some m.1) (value_at k es) ≡ Some e → (value_at k es ≡ Some e → (o : ℕ) × (value_in k (T.members_of es) ≡ Some (o, e)))
      → (o : ℕ) × (cond b (Some (length (spell_text m.0), m.1)) (moved (length (spell_text m.0 ++ spell m.1)) (value_in k (T.members_of es))) ≡ Some (o, e))
  by true is later = (length (spell_text m.0), ap (λ x. Some (length (spell_text m.0), x)) (same_Some m.1 e is))
  by false is later = let x = later is in (length (spell_text m.0 ++ spell m.1) + x.0, ap (moved (length (spell_text m.0 ++ spell m.1))) x.1)

pub to_value : (es : List (List ℕ × Data)) (k : List ℕ) (e : Data) (way : List Step) → value_at k es ≡ Some e → Leads way e → Leads (under k ∷ way) (map_data es)
to_value es k e way h l =
    let x = value_found es k e h in
    let front = length (head 5 (length (T.members_list (T.members_of es)))) in
    steps_on (under k) way (map_data es) (front + x.0) e (ap (moved front) x.1) l

pub key_found : (es : List (List ℕ × Data)) (k : List ℕ) (e : Data) → value_at k es ≡ Some e → (o : ℕ) × (key_in k (T.members_of es) ≡ Some (o, T.text k))
key_found [] k e h = absurd (none-some e h)
key_found (m ∷ es) k e h = by (same_text k m.0) refl h (key_found es k e) where
  by : (b : Bool) → b ≡ same_text k m.0 → cond b (Some m.1) (value_at k es) ≡ Some e → (value_at k es ≡ Some e → (o : ℕ) × (key_in k (T.members_of es) ≡ Some (o, T.text k)))
      → (o : ℕ) × (cond b (Some (0, T.text m.0)) (moved (length (spell_text m.0 ++ spell m.1)) (key_in k (T.members_of es))) ≡ Some (o, T.text k))
  by true same is later = (0, ap (λ x. Some (0, T.text x)) (sym (text_same k m.0 same)))
  by false same is later = let x = later is in (length (spell_text m.0 ++ spell m.1) + x.0, ap (moved (length (spell_text m.0 ++ spell m.1))) x.1)

pub to_key : (es : List (List ℕ × Data)) (k : List ℕ) (e : Data) → value_at k es ≡ Some e → Leads (key k ∷ []) (map_data es)
to_key es k e h =
    let x = key_found es k e h in
    let front = length (head 5 (length (T.members_list (T.members_of es)))) in
    steps_on (key k) [] (map_data es) (front + x.0) (T.text k) (ap (moved front) x.1) (itself (T.text k))

-- ---- parts of lists and maps

abbrev pub All : Data → List Spot → Type 0
All t ps = AllByRecursion (IsReached t) ps

-- the rest of a list stands in it from a place on
abbrev pub StandFrom : {A : Type 0} → List A → ℕ → List A → Type 0
StandFrom {A} whole n xs = (i : ℕ) (x : A) → slice_get xs i ≡ Some x → slice_get whole (n + i) ≡ Some x

pub first_of : {A : Type 0} (whole : List A) (n : ℕ) (x : A) (xs : List A) → StandFrom whole n (x ∷ xs) → slice_get whole n ≡ Some x
first_of whole n x xs each = subst (λ m. slice_get whole m ≡ Some x) (let e : n + 0 ≡ n = omega arith in e) (each 0 x refl)

pub rest_of : {A : Type 0} (whole : List A) (n : ℕ) (x : A) (xs : List A) → StandFrom whole n (x ∷ xs) → StandFrom whole (n + 1) xs
rest_of whole n x xs each = λ i y h. subst (λ m. slice_get whole m ≡ Some y) (let e : n + suc i ≡ n + 1 + i = omega arith in e) (each (suc i) y h)

pub from_start : {A : Type 0} (whole : List A) → StandFrom whole 0 whole
from_start whole = λ i x h. subst (λ m. slice_get whole m ≡ Some x) (let e : i ≡ 0 + i = omega arith in e) h

-- a part that stands in the item of the whole
pub here_reached : (t : Data) (p : Spot) → p.at ≡ [] → IsBare p.tree → IsReached t p
here_reached t p none bare = bare_reached t p bare (subst (λ w. Leads w t) (sym none) (itself t))
