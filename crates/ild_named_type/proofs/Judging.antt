-- Two tables that say the same of the first so many types: the rules say the same of a type that is made on these.
use Rattle.std.proofs.Common.{◌≡◌, ℕ, ◌<◌, Bool, false, ◌&&◌, ◌||◌, not, cond, List, [], ◌∷◌, ◌++◌, Option, Some, map, refl, ap, ◌∙◌}
use Rattle.std.specs.Prelude.{bytes_eq, find, if◌then◌else◌, is_some, option_map}
use Rattle.std.specs.List.{AllByRecursion, list_any}
use Rattle.std.specs.Option.{option_map_or, option_or}
use Rattle.std.proofs.lemmas.List.Elements.{recursion_from_All}
use Rattle.ild_schema.specs.declared.number.Slot.{Slot}
use Rattle.ild_schema.specs.declared.def.TypeDef.{TypeDef}
use Rattle.ild_schema.specs.declared.def.TypeDef.TheVariants as D
use Rattle.ild_schema.specs.declared.def.UnionForm.{UnionForm}
use Rattle.ild_schema.specs.declared.def.UnionForm.TheVariants as U
use Rattle.ild_schema.specs.declared.def.Field.{Field}
use Rattle.ild_schema.specs.declared.def.KindWord.TheVariants as W
use Rattle.ild_schema.specs.declared.def.Member.{Member}
use Rattle.ild_schema.specs.declared.row.Row.{Row}
use Rattle.ild_schema.specs.declared.rule.Rule.TheVariants as R
use Rattle.ild_schema.specs.Accept.{Failing, fails_at, type_fault}
use Rattle.ild_schema.specs.Clashes.{are_same, discriminant_of, has_field, has_one_key, is_key_taken, is_member_again, name_fault}
use Rattle.ild_schema.specs.Delimiters.{delim_fault}
use Rattle.ild_schema.specs.Kinds.{kinds_in, kinds_of, meant, has_kind, has_only, has_text_form, declared_kinds}
use Rattle.ild_schema.specs.Marks.{mark_kind, mark_text, is_marked}
use Rattle.ild_schema.specs.Places.{first_place, first_beside, place_if}
use Rattle.ild_schema.specs.Prefixes.{prefix_fault}
use Rattle.ild_schema.specs.Rules.{is_null_twice, null_fault, is_kind_wrong, is_not_bytes, union_kind_fault, kind_fault, is_no_text, is_text_struct, is_text_map, is_text_union, text_fault, optional_fault, is_of, is_implicit_wrong, implicit_fault, is_inline, is_map_struct, inline_fault, key_fault, strategy_fault}
use Rattle.ild_schema.specs.Table.{IsWithin, numbers_of}

-- ---- parts whose numbers are low

abbrev AreLow : {X : Type 0} → ℕ → (X → ℕ) → List X → Type 0
AreLow count number xs = AllByRecursion (λ x. number x < count) xs

low_parts : {X : Type 0} (count : ℕ) (number : X → ℕ) (xs : List X) → AllByRecursion (λ n. n < count) (map number xs) → AreLow count number xs
low_parts count number [] h = tt
low_parts count number (x ∷ xs) h = (h.0, low_parts count number xs h.1)

-- two tests that agree on such parts
module _ {X : Type 0} (count : ℕ) (number at : X → ℕ) where
  found_same : (f g : X → Bool) → ((x : X) → number x < count → f x ≡ g x) → (xs : List X) → AreLow count number xs → find f xs ≡ find g xs
  found_same f g same [] low = refl
  found_same f g same (x ∷ xs) low = ap (λ b. cond b (Some x) (find f xs)) (same x low.0) ∙ ap (λ o. cond (g x) (Some x) o) (found_same f g same xs low.1)

  place_same : (f g : X → Bool) → ((x : X) → number x < count → f x ≡ g x) → (xs : List X) → AreLow count number xs → first_place f at xs ≡ first_place g at xs
  place_same f g same xs low = ap (option_map at) (found_same f g same xs low)

  beside_same : (f g : List X → X → Bool) → ((before : List X) (x : X) → number x < count → f before x ≡ g before x)
      → (before xs : List X) → AreLow count number xs → first_beside f at before xs ≡ first_beside g at before xs
  beside_same f g same before [] low = refl
  beside_same f g same before (x ∷ xs) low =
      ap (λ b. if b then Some (at x) else first_beside f at (before ++ x ∷ []) xs) (same before x low.0)
      ∙ ap (λ o. if g before x then Some (at x) else o) (beside_same f g same (before ++ x ∷ []) xs low.1)

-- ---- the rules

module _ (others rows : List Row) (count : ℕ) (agree : (n : ℕ) → n < count → meant others n ≡ meant rows n) where
  kinds_same : (n : ℕ) → n < count → kinds_of others n ≡ kinds_of rows n
  kinds_same n low = ap kinds_in (agree n low)

  text_form_same : (n : ℕ) → n < count → has_text_form others n ≡ has_text_form rows n
  text_form_same n low = ap (λ ks. has_only W.Text ks) (kinds_same n low)

  twice_same : (s : Slot) → s.ty.0 < count → is_null_twice others s ≡ is_null_twice rows s
  twice_same s low = ap (λ ks. s.nullable && ks.null) (kinds_same s.ty.0 low)

  null_same : (d : TypeDef) → AllByRecursion (λ n. n < count) (numbers_of d) → null_fault others d ≡ null_fault rows d
  null_same (D.List elem at) low = ap (λ b. place_if b at) (twice_same elem low.0)
  null_same (D.Map key key_at value at form) low = ap (λ b. place_if b at) (twice_same value low.1.0)
  null_same (D.Struct s) low =
      place_same count (λ f. f.slot.ty.0) (λ f. f.at) (λ f. is_null_twice others f.slot) (λ f. is_null_twice rows f.slot) (λ f low. twice_same f.slot low) s.fields
      (low_parts count (λ f. f.slot.ty.0) s.fields low)
  null_same d low = refl

  wrong_same : (before : List Member) (m : Member) → m.ty.0 < count → is_kind_wrong others before m ≡ is_kind_wrong rows before m
  wrong_same before m low =
      ap (λ ks. option_map_or (λ kind. not (has_only kind ks) || has_kind kind (declared_kinds before)) (mark_kind m.mark) false) (kinds_same m.ty.0 low)

  not_bytes_same : (m : Member) → m.ty.0 < count → is_not_bytes others m ≡ is_not_bytes rows m
  not_bytes_same m low = ap (λ ks. is_some (mark_text m.mark) && not (has_only W.Bytes ks)) (kinds_same m.ty.0 low)

  union_kind_same : (form : UnionForm) (ms : List Member) → AreLow count (λ m. m.ty.0) ms → union_kind_fault others form ms ≡ union_kind_fault rows form ms
  union_kind_same U.Kinded ms low = beside_same count (λ m. m.ty.0) (λ m. m.at) (is_kind_wrong others) (is_kind_wrong rows) wrong_same [] ms low
  union_kind_same U.BytesPrefix ms low = place_same count (λ m. m.ty.0) (λ m. m.at) (is_not_bytes others) (is_not_bytes rows) not_bytes_same ms low
  union_kind_same form ms low = refl

  kind_same : (d : TypeDef) → AllByRecursion (λ n. n < count) (numbers_of d) → kind_fault others d ≡ kind_fault rows d
  kind_same (D.Union u) low = union_kind_same u.form u.members (low_parts count (λ m. m.ty.0) u.members low)
  kind_same d low = refl

  no_text_same : (s : Slot) → s.ty.0 < count → is_no_text others s ≡ is_no_text rows s
  no_text_same s low = ap (λ b. s.nullable || not b) (text_form_same s.ty.0 low)

  text_same : (d : TypeDef) → AllByRecursion (λ n. n < count) (numbers_of d) → text_fault others d ≡ text_fault rows d
  text_same (D.Struct s) low =
      place_same count (λ f. f.slot.ty.0) (λ f. f.at) (λ f. is_text_struct s.form && is_no_text others f.slot) (λ f. is_text_struct s.form && is_no_text rows f.slot)
      (λ f low. ap (λ b. is_text_struct s.form && b) (no_text_same f.slot low)) s.fields (low_parts count (λ f. f.slot.ty.0) s.fields low)
  text_same (D.Map key key_at value at form) low = ap (λ b. place_if (is_text_map form && b) at) (no_text_same value low.1.0)
  text_same (D.Union u) low =
      place_same count (λ m. m.ty.0) (λ m. m.at) (λ m. is_text_union u.form && not (has_text_form others m.ty.0)) (λ m. is_text_union u.form && not (has_text_form rows m.ty.0))
      (λ m low. ap (λ b. is_text_union u.form && not b) (text_form_same m.ty.0 low)) u.members (low_parts count (λ m. m.ty.0) u.members low)
  text_same d low = refl

  implicit_wrong_same : (f : Field) → f.slot.ty.0 < count → is_implicit_wrong others f ≡ is_implicit_wrong rows f
  implicit_wrong_same f low = ap (λ o. option_map_or (λ value. f.optional || not (is_of value o)) f.implicit false) (agree f.slot.ty.0 low)

  implicit_same : (d : TypeDef) → AllByRecursion (λ n. n < count) (numbers_of d) → implicit_fault others d ≡ implicit_fault rows d
  implicit_same (D.Struct s) low =
      place_same count (λ f. f.slot.ty.0) (λ f. f.at) (is_implicit_wrong others) (is_implicit_wrong rows) implicit_wrong_same s.fields (low_parts count (λ f. f.slot.ty.0) s.fields low)
  implicit_same d low = refl

  taken_same : (form : UnionForm) (m : Member) → m.ty.0 < count → is_key_taken others form m ≡ is_key_taken rows form m
  taken_same (U.Inline key) m low = ap (has_field key) (agree m.ty.0 low)
  taken_same form m low = refl

  again_same : (form : UnionForm) (before : List Member) (m : Member) → m.ty.0 < count → is_member_again others form before m ≡ is_member_again rows form before m
  again_same form before m low =
      ap (λ b. is_marked form m && (list_any (λ o. is_marked form o && (bytes_eq m.name o.name || are_same (discriminant_of form m) (discriminant_of form o))) before || b)) (taken_same form m low)

  name_same : (at : ℕ) (d : TypeDef) → AllByRecursion (λ n. n < count) (numbers_of d) → name_fault others at d ≡ name_fault rows at d
  name_same at (D.Union u) low =
      ap (λ o. if has_one_key u.form then Some at else o)
      (beside_same count (λ m. m.ty.0) (λ m. m.at) (is_member_again others u.form) (is_member_again rows u.form) (again_same u.form) [] u.members (low_parts count (λ m. m.ty.0) u.members low))
  name_same at d low = refl

  inline_same : (d : TypeDef) → AllByRecursion (λ n. n < count) (numbers_of d) → inline_fault others d ≡ inline_fault rows d
  inline_same (D.Union u) low =
      place_same count (λ m. m.ty.0) (λ m. m.at) (λ m. is_inline u.form && not (is_map_struct (meant others m.ty.0))) (λ m. is_inline u.form && not (is_map_struct (meant rows m.ty.0)))
      (λ m low. ap (λ o. is_inline u.form && not (is_map_struct o)) (agree m.ty.0 low)) u.members (low_parts count (λ m. m.ty.0) u.members low)
  inline_same d low = refl

  key_same : (d : TypeDef) → AllByRecursion (λ n. n < count) (numbers_of d) → key_fault others d ≡ key_fault rows d
  key_same (D.Map key at value value_at form) low = ap (λ b. place_if (not b) at) (text_form_same key.0 low.0)
  key_same d low = refl

  -- the first of them that fails
  judged : ℕ → TypeDef → Option ℕ → Option ℕ → Option ℕ → Option ℕ → Option ℕ → Option ℕ → Option ℕ → Option Failing
  judged at d null kind text implicit name inline key =
      option_or (fails_at R.NullClash null)
      (option_or (fails_at R.KindClash kind)
      (option_or (fails_at R.PrefixClash (prefix_fault d))
      (option_or (fails_at R.Delim (delim_fault at d))
      (option_or (fails_at R.NotText text)
      (option_or (fails_at R.OptionalPlace (optional_fault d))
      (option_or (fails_at R.Implicit implicit)
      (option_or (fails_at R.NameClash name)
      (option_or (fails_at R.InlineMember inline)
      (option_or (fails_at R.MapKey key)
      (fails_at R.Strategy (strategy_fault at d)))))))))))

  pub fault_same : (at : ℕ) (d : TypeDef) → IsWithin count d → type_fault others at d ≡ type_fault rows at d
  unfolding judged
  fault_same at d within = by (recursion_from_All (λ n. n < count) (numbers_of d) within.1)
    where
      by : AllByRecursion (λ n. n < count) (numbers_of d) → type_fault others at d ≡ type_fault rows at d
      by low =
          ap (λ o. judged at d o (kind_fault others d) (text_fault others d) (implicit_fault others d) (name_fault others at d) (inline_fault others d) (key_fault others d)) (null_same d low)
          ∙ ap (λ o. judged at d (null_fault rows d) o (text_fault others d) (implicit_fault others d) (name_fault others at d) (inline_fault others d) (key_fault others d)) (kind_same d low)
          ∙ ap (λ o. judged at d (null_fault rows d) (kind_fault rows d) o (implicit_fault others d) (name_fault others at d) (inline_fault others d) (key_fault others d)) (text_same d low)
          ∙ ap (λ o. judged at d (null_fault rows d) (kind_fault rows d) (text_fault rows d) o (name_fault others at d) (inline_fault others d) (key_fault others d)) (implicit_same d low)
          ∙ ap (λ o. judged at d (null_fault rows d) (kind_fault rows d) (text_fault rows d) (implicit_fault rows d) o (inline_fault others d) (key_fault others d)) (name_same at d low)
          ∙ ap (λ o. judged at d (null_fault rows d) (kind_fault rows d) (text_fault rows d) (implicit_fault rows d) (name_fault rows at d) o (key_fault others d)) (inline_same d low)
          ∙ ap (λ o. judged at d (null_fault rows d) (kind_fault rows d) (text_fault rows d) (implicit_fault rows d) (name_fault rows at d) (inline_fault rows d) o) (key_same d low)
