-- The walk refuses one piece at most.
use Rattle.ild_schema.specs.declared.def.Member.{Member}
use Rattle.std.specs.Option.{option_map_or}
use Rattle.std.proofs.Common.{◌≡◌, ℕ, zero, suc, ◌+◌, ◌-◌, List, [], ◌∷◌, ◌++◌, Bool, true, false, cond, Option, Some, None, refl, sym, ◌∙◌, ap, subst, inl, inr}
use Rattle.std.specs.Prelude.{◌⊎◌, slice_get}
use Rattle.std.specs.List.{AllByRecursion}
use Rattle.std.proofs.lemmas.Option.{same_Some, none-some}
use Rattle.ild_data.specs.Data.{Data}
use Rattle.ild_schema.specs.declared.number.Slot.{Slot}
use Rattle.ild_schema.specs.declared.number.TypeNo.{TypeNo}
use Rattle.ild_schema.specs.declared.def.TypeDef.{TypeDef}
use Rattle.ild_schema.specs.declared.def.TypeDef.TheVariants as D
use Rattle.ild_schema.specs.declared.def.MapForm.{MapForm}
use Rattle.ild_schema.specs.declared.def.MapForm.TheVariants as MF
use Rattle.ild_schema.specs.declared.def.StructForm.{StructForm}
use Rattle.ild_schema.specs.declared.def.Field.{Field}
use Rattle.ild_schema.specs.declared.row.Row.{Row}
use Rattle.ild_schema.specs.Copies.{base}
use Rattle.ild_schema.specs.Value.{Value}
use Rattle.ild_typed.specs.Layer as L
use Rattle.ild_typed.specs.Layer.{Layer}
use Rattle.ild_schema.specs.Slots.{form_of, plainly}
use Rattle.ild_typed.specs.Slots.{slot_of}
use Rattle.ild_typed.specs.Fields.{is_implicit}
use Rattle.ild_typed.specs.Composed.{composed}
use Rattle.ild_typed.specs.Hamt.{alone}
use Rattle.ild_typed.specs.Fits.{FitsPast}
use Rattle.ild_typed.specs.Layers.{RepresentsSome}
use Rattle.ild_schema.specs.Clear.{ClearType, IsClear, IsSafe, AreSafe}
use Rattle.ild_typed.specs.Why.{Why}
use Rattle.ild_typed.specs.Spots.{Spot, value_spot, element_spots, entry_spots, field_steps, field_spots, spots_of, member_spots}
use Rattle.ild_typed.specs.RootSpots.{bucket_spots, root_spots}
use Rattle.ild_typed.specs.Pieces.{needs, why_at, HasNoRoot, IsWhy}
use Rattle.ild_typed.specs.Refused.{Refusal, part_refusal, AreParts, FirstRefused, PieceRefused, RefusedPast}
use Rattle.ild_schema.specs.Delims.{AllDelims}
use Rattle.ild_data.specs.Trie as Trie
use Rattle.ild_typed.proofs.Composing.{composed_tells, alone_tells}
use Rattle.ild_typed.proofs.OneValue.{safe_parts, plain_safe}
use Rattle.ild_typed.proofs.WalkSound.{one_root, refused_sound}

-- ---- the slots of the parts are safe

module _ (rows : List Row) where
  abbrev pub AllSafe : List Spot → Type 0
  AllSafe ps = AllByRecursion (λ p. IsSafe rows p.slot) ps

  key_safe : (n : TypeNo) → IsSafe rows (plainly n)
  key_safe n = plain_safe rows (plainly n) refl

  elements_safe : (elem : Slot) → IsSafe rows elem → (n : ℕ) (ds : List Data) → AllSafe (element_spots elem n ds)
  elements_safe elem safe n [] = tt
  elements_safe elem safe n (d ∷ ds) = (safe, elements_safe elem safe (n + 1) ds)

  entries_safe : (form : MapForm) (key : TypeNo) (value : Slot) → IsSafe rows value → (i : ℕ) (es : List (List ℕ × Data)) → AllSafe (entry_spots form key value i es)
  entries_safe form key value safe i [] = tt
  entries_safe form key value safe i (e ∷ es) = (key_safe key, (safe, entries_safe form key value safe (i + 1) es))

  fields_are_safe : (form : StructForm) (n : ℕ) (fs : List Field) → AllByRecursion (λ f. IsSafe rows f.slot) fs → (os : List (Option Data)) → AllSafe (field_spots form n fs os)
  fields_are_safe form n [] safe os = tt
  fields_are_safe form n (f ∷ fs) safe [] = tt
  fields_are_safe form n (f ∷ fs) safe (None ∷ os) = fields_are_safe form n fs safe.1 os
  fields_are_safe form n (f ∷ fs) safe (Some d ∷ os) = by (is_implicit f.implicit d) (λ m. fields_are_safe form m fs safe.1 os) where
    by : (b : Bool) → ((m : ℕ) → AllSafe (field_spots form m fs os))
        → AllSafe (cond b (value_spot f.slot d [] ∷ field_spots form n fs os) (value_spot f.slot d (field_steps form f n) ∷ field_spots form (n + 1) fs os))
    by true rest = (safe.0, rest n)
    by false rest = (safe.0, rest (n + 1))

  append_safe : (ps qs : List Spot) → AllSafe ps → AllSafe qs → AllSafe (ps ++ qs)
  append_safe [] qs a b = b
  append_safe (p ∷ ps) qs a b = (a.0, append_safe ps qs a.1 b)

  bucket_safe : (key : TypeNo) (value : Slot) → IsSafe rows value → (n i : ℕ) (es : List (List ℕ × Data)) → AllSafe (bucket_spots key value n i es)
  bucket_safe key value safe n i [] = tt
  bucket_safe key value safe n i (e ∷ es) = (key_safe key, (safe, bucket_safe key value safe n (i + 1) es))

  root_safe : (key : TypeNo) (value : Slot) → IsSafe rows value → (n : ℕ) (slots : List Trie.TrieSlot) → AllSafe (root_spots key value n slots)
  root_safe key value safe n [] = tt
  root_safe key value safe n (Trie.empty ∷ slots) = root_safe key value safe n slots
  root_safe key value safe n (Trie.bucket es ∷ slots) =
      append_safe (bucket_spots key value n 0 es) (root_spots key value (n + 1) slots) (bucket_safe key value safe n 0 es) (root_safe key value safe (n + 1) slots)
  root_safe key value safe n (Trie.child id ∷ slots) = root_safe key value safe (n + 1) slots

  spots_safe : (d : TypeDef) (l : Layer Data) → AreSafe rows d → AllSafe (spots_of d l)
  spots_safe D.Bool l safe = tt
  spots_safe D.Text l safe = tt
  spots_safe D.Bytes l safe = tt
  spots_safe D.Int l safe = tt
  spots_safe D.Any l safe = tt
  spots_safe (D.Link target) l safe = tt
  spots_safe (D.Unit form) l safe = tt
  spots_safe (D.Enum en) l safe = tt
  spots_safe (D.Copy target) l safe = tt
  spots_safe (D.List elem at) l safe = by l where
    by : (k : Layer Data) → AllSafe (spots_of (D.List elem at) k)
    by (L.list ds) = elements_safe elem safe 0 ds
    by k = tt
  spots_safe (D.Map key key_at value at form) l safe = by l where
    by : (k : Layer Data) → AllSafe (spots_of (D.Map key key_at value at form) k)
    by (L.map es) = entries_safe form key value safe 0 es
    by k = tt
  spots_safe (D.Struct st) l safe = by l where
    by : (k : Layer Data) → AllSafe (spots_of (D.Struct st) k)
    by (L.struct os) = fields_are_safe st.form 0 st.fields safe os
    by k = tt
  spots_safe (D.Union u) l safe = by l where
    each : (o : Option Member) (d : Data) → AllSafe (option_map_or (member_spots u.form d) o [])
    each None d = tt
    each (Some m) d = (plain_safe rows (slot_of m) refl, tt)

    by : (k : Layer Data) → AllSafe (spots_of (D.Union u) k)
    by (L.union n x) = each (slice_get u.members n) x
    by k = tt

  parts_safe : (d : TypeDef) (t : Data) (ps : List Spot) → AreSafe rows d → AreParts d t ps → AllSafe ps
  parts_safe D.Bool t ps safe (l, made, e) = subst AllSafe (sym e) (spots_safe D.Bool l safe)
  parts_safe D.Text t ps safe (l, made, e) = subst AllSafe (sym e) (spots_safe D.Text l safe)
  parts_safe D.Bytes t ps safe (l, made, e) = subst AllSafe (sym e) (spots_safe D.Bytes l safe)
  parts_safe D.Int t ps safe (l, made, e) = subst AllSafe (sym e) (spots_safe D.Int l safe)
  parts_safe D.Any t ps safe (l, made, e) = subst AllSafe (sym e) (spots_safe D.Any l safe)
  parts_safe (D.Link target) t ps safe (l, made, e) = subst AllSafe (sym e) (spots_safe (D.Link target) l safe)
  parts_safe (D.Unit form) t ps safe (l, made, e) = subst AllSafe (sym e) (spots_safe (D.Unit form) l safe)
  parts_safe (D.Enum en) t ps safe (l, made, e) = subst AllSafe (sym e) (spots_safe (D.Enum en) l safe)
  parts_safe (D.Copy target) t ps safe (l, made, e) = subst AllSafe (sym e) (spots_safe (D.Copy target) l safe)
  parts_safe (D.List elem at) t ps safe (l, made, e) = subst AllSafe (sym e) (spots_safe (D.List elem at) l safe)
  parts_safe (D.Map key key_at value at MF.Map) t ps safe (l, made, e) = subst AllSafe (sym e) (spots_safe (D.Map key key_at value at MF.Map) l safe)
  parts_safe (D.Map key key_at value at MF.ListPairs) t ps safe (l, made, e) = subst AllSafe (sym e) (spots_safe (D.Map key key_at value at MF.ListPairs) l safe)
  parts_safe (D.Map key key_at value at (MF.StringPairs inner entry)) t ps safe (l, made, e) = subst AllSafe (sym e) (spots_safe (D.Map key key_at value at (MF.StringPairs inner entry)) l safe)
  parts_safe (D.Struct st) t ps safe (l, made, e) = subst AllSafe (sym e) (spots_safe (D.Struct st) l safe)
  parts_safe (D.Union u) t ps safe (l, made, e) = subst AllSafe (sym e) (spots_safe (D.Union u) l safe)
  parts_safe (D.Map key key_at value at (MF.Hamt p)) t ps safe (slots, root, e) = subst AllSafe (sym e) (root_safe key value safe 0 slots)

-- ---- the parts are one list

one_layer : (d : TypeDef) → ClearType d → (t : Data) (l m : Layer Data) (ps qs : List Spot) → composed alone d l ≡ Some t → composed alone d m ≡ Some t
    → ps ≡ spots_of d l → qs ≡ spots_of d m → ps ≡ qs
one_layer d clear t l m ps qs a b e k = e ∙ ap (spots_of d) (composed_tells alone alone_tells d clear l m t a b) ∙ sym k

parts_one : (d : TypeDef) → ClearType d → (t : Data) (ps qs : List Spot) → AreParts d t ps → AreParts d t qs → ps ≡ qs
parts_one D.Bool clear t ps qs (l, a, e) (m, b, k) = one_layer D.Bool clear t l m ps qs a b e k
parts_one D.Text clear t ps qs (l, a, e) (m, b, k) = one_layer D.Text clear t l m ps qs a b e k
parts_one D.Bytes clear t ps qs (l, a, e) (m, b, k) = one_layer D.Bytes clear t l m ps qs a b e k
parts_one D.Int clear t ps qs (l, a, e) (m, b, k) = one_layer D.Int clear t l m ps qs a b e k
parts_one D.Any clear t ps qs (l, a, e) (m, b, k) = one_layer D.Any clear t l m ps qs a b e k
parts_one (D.Link target) clear t ps qs (l, a, e) (m, b, k) = one_layer (D.Link target) clear t l m ps qs a b e k
parts_one (D.Unit form) clear t ps qs (l, a, e) (m, b, k) = one_layer (D.Unit form) clear t l m ps qs a b e k
parts_one (D.Enum en) clear t ps qs (l, a, e) (m, b, k) = one_layer (D.Enum en) clear t l m ps qs a b e k
parts_one (D.Copy target) clear t ps qs (l, a, e) (m, b, k) = one_layer (D.Copy target) clear t l m ps qs a b e k
parts_one (D.List elem at) clear t ps qs (l, a, e) (m, b, k) = one_layer (D.List elem at) clear t l m ps qs a b e k
parts_one (D.Map key key_at value at MF.Map) clear t ps qs (l, a, e) (m, b, k) = one_layer (D.Map key key_at value at MF.Map) clear t l m ps qs a b e k
parts_one (D.Map key key_at value at MF.ListPairs) clear t ps qs (l, a, e) (m, b, k) = one_layer (D.Map key key_at value at MF.ListPairs) clear t l m ps qs a b e k
parts_one (D.Map key key_at value at (MF.StringPairs inner entry)) clear t ps qs (l, a, e) (m, b, k) = one_layer (D.Map key key_at value at (MF.StringPairs inner entry)) clear t l m ps qs a b e k
parts_one (D.Struct st) clear t ps qs (l, a, e) (m, b, k) = one_layer (D.Struct st) clear t l m ps qs a b e k
parts_one (D.Union u) clear t ps qs (l, a, e) (m, b, k) = one_layer (D.Union u) clear t l m ps qs a b e k
parts_one (D.Map key key_at value at (MF.Hamt p)) clear t ps qs (ss, a, e) (ts, b, k) = e ∙ ap (root_spots key value 0) (one_root p ss ts t a b) ∙ sym k

-- data with parts are the root of a HAMT
has_root : (d : TypeDef) (t : Data) (ps : List Spot) → AreParts d t ps → HasNoRoot d t → ⊥
has_root D.Bool t ps parts none = none
has_root D.Text t ps parts none = none
has_root D.Bytes t ps parts none = none
has_root D.Int t ps parts none = none
has_root D.Any t ps parts none = none
has_root (D.Link target) t ps parts none = none
has_root (D.Unit form) t ps parts none = none
has_root (D.Enum en) t ps parts none = none
has_root (D.Copy target) t ps parts none = none
has_root (D.List elem at) t ps parts none = none
has_root (D.Map key key_at value at MF.Map) t ps parts none = none
has_root (D.Map key key_at value at MF.ListPairs) t ps parts none = none
has_root (D.Map key key_at value at (MF.StringPairs inner entry)) t ps parts none = none
has_root (D.Struct st) t ps parts none = none
has_root (D.Union u) t ps parts none = none
has_root (D.Map key key_at value at (MF.Hamt p)) t ps (slots, root, e) none = none slots root

-- ---- the walk

one_why : (room : ℕ) (d : TypeDef) (t : Data) (v w : Why) → IsWhy room d t v → IsWhy room d t w → v ≡ w
one_why room d t v w (inl e) (inl k) = same_Some v w (sym e ∙ k)
one_why room d t v w (inl e) (inr k) = absurd (none-some v (sym k.0 ∙ e))
one_why room d t v w (inr e) (inl k) = absurd (none-some w (sym e.0 ∙ k))
one_why room d t v w (inr e) (inr k) = e.2 ∙ sym k.2

own_or_parts : (room : ℕ) (d : TypeDef) (t : Data) (w : Why) (ps : List Spot) → IsWhy room d t w → why_at room d t ≡ None → AreParts d t ps → ⊥
own_or_parts room d t w ps (inl e) none parts = none-some w (sym none ∙ e)
own_or_parts room d t w ps (inr h) none parts = has_root d t ps parts h.1

first_one : (rows : List Row) (fits : Slot → Value → Type 0) (refused : Slot → Data → Refusal → Type 0)
    → ((s : Slot) → IsSafe rows s → (t : Data) (q : Refusal) → refused s t q → RepresentsSome fits rows s t → ⊥)
    → ((s : Slot) → IsSafe rows s → (t : Data) (q r : Refusal) → refused s t q → refused s t r → q ≡ r)
    → (ps : List Spot) → AllSafe rows ps → (q r : Refusal) → FirstRefused fits refused rows ps q → FirstRefused fits refused rows ps r → q ≡ r
first_one rows fits refused sound one [] safe q r h k = absurd h
first_one rows fits refused sound one (p ∷ ps) safe q r (inl (a, h, e)) (inl (b, k, g)) = e ∙ ap (part_refusal p) (one p.slot safe.0 p.tree a b h k) ∙ sym g
first_one rows fits refused sound one (p ∷ ps) safe q r (inl (a, h, e)) (inr k) = absurd (sound p.slot safe.0 p.tree a h k.0)
first_one rows fits refused sound one (p ∷ ps) safe q r (inr h) (inl (b, k, g)) = absurd (sound p.slot safe.0 p.tree b k h.0)
first_one rows fits refused sound one (p ∷ ps) safe q r (inr h) (inr k) = first_one rows fits refused sound one ps safe.1 q r h.1 k.1

module _ (rows : List Row) (clear : IsClear rows) (room : ℕ) (fits : ℕ → Slot → Value → Type 0) (refused : ℕ → Slot → Data → Refusal → Type 0)
    (sound : (over : ℕ) (s : Slot) → IsSafe rows s → (t : Data) (q : Refusal) → refused over s t q → RepresentsSome (fits over) rows s t → ⊥)
    (one : (over : ℕ) (s : Slot) → IsSafe rows s → (t : Data) (q r : Refusal) → refused over s t q → refused over s t r → q ≡ r) where
  abbrev Rest : Slot → Data → Refusal → TypeDef → Type 0
  Rest s t r d =
      ((w : Why) × IsWhy room d t w × (r ≡ record { ty = s.ty; why = w; at = [] }))
      ⊎ ((why_at room d t ≡ None) × (ps : List Spot) × AreParts d t ps × FirstRefused (fits (needs d t - 1)) (refused (needs d t - 1)) rows ps r)

  rest_one : (s : Slot) (t : Data) (q r : Refusal) (d : TypeDef) → form_of rows s ≡ Some d → Rest s t q d → Rest s t r d → q ≡ r
  rest_one s t q r d is (inl (v, a, e)) (inl (w, b, k)) = e ∙ ap (λ x. record { ty = s.ty; why = x; at = [] }) (one_why room d t v w a b) ∙ sym k
  rest_one s t q r d is (inl (v, a, e)) (inr (none, ps, parts, first)) = absurd (own_or_parts room d t v ps a none parts)
  rest_one s t q r d is (inr (none, ps, parts, first)) (inl (w, b, k)) = absurd (own_or_parts room d t w ps b none parts)
  rest_one s t q r d is (inr (none, ps, parts, first)) (inr (none2, qs, parts2, first2)) =
      let same : qs ≡ ps = parts_one d (clear.types (base rows s.ty.0) d is) t qs ps parts2 parts in
      first_one rows (fits (needs d t - 1)) (refused (needs d t - 1)) (sound (needs d t - 1)) (one (needs d t - 1)) ps (parts_safe rows d t ps (safe_parts rows clear s d is) parts) q r first
      (subst (λ xs. FirstRefused (fits (needs d t - 1)) (refused (needs d t - 1)) rows xs r) same first2)

  piece_one : (s : Slot) (t : Data) (q r : Refusal) → PieceRefused rows room fits refused s t q → PieceRefused rows room fits refused s t r → q ≡ r
  piece_one s t q r (a, d, is, x) (b, c, js, y) = rest_one s t q r d is x (subst (Rest s t r) (same_Some c d (sym js ∙ is)) y)

pub refused_one : (rows : List Row) → IsClear rows → AllDelims rows → (room over : ℕ) (s : Slot) (t : Data) (q r : Refusal) → RefusedPast rows room over s t q → RefusedPast rows room over s t r → q ≡ r
unfolding RefusedPast
refused_one rows clear delims zero zero s t q r h k = piece_one rows clear zero (λ over u w. ⊥) (λ over u d x. ⊥) (λ over u safe c x a b. a) (λ over u safe c x y a b. absurd a) s t q r h k
refused_one rows clear delims zero (suc over) s t q r h k = absurd h
refused_one rows clear delims (suc room) zero s t q r h k =
    piece_one rows clear (suc room) (FitsPast rows room) (RefusedPast rows room) (λ over u safe c x a b. refused_sound rows clear delims room over u safe c x a b)
    (λ over u safe c x y a b. refused_one rows clear delims room over u c x y a b) s t q r h k
refused_one rows clear delims (suc room) (suc over) s t q r h k = refused_one rows clear delims room over s t q r h k
