-- The fields of a struct with blank data.
use Rattle.std.proofs.Common.{◌≡◌, ℕ, Bool, true, false, cond, List, [], ◌∷◌, ◌++◌, map, Option, Some, None, option_map, refl, sym, ap, ◌∙◌}
use Rattle.std.specs.Prelude.{◌&&◌, option_and_then}
use Rattle.std.proofs.lemmas.List.{map-append}
use Rattle.ild_data.specs.Data as T
use Rattle.ild_data.specs.Data.{Data}
use Rattle.ild_data_alike.specs.Blank.{blank, blank_entry, blank_entries}
use Rattle.ild_schema.specs.Marks.{field_text}
use Rattle.ild_schema.specs.declared.def.Field.{Field}
use Rattle.ild_schema.specs.declared.def.Scalar.{Scalar}
use Rattle.ild_schema.specs.declared.def.Scalar.TheVariants as C
use Rattle.ild_schema.specs.declared.def.StructForm.{StructForm}
use Rattle.ild_schema.specs.declared.def.StructForm.TheVariants as S
use Rattle.ild_typed.specs.Composed.{struct_form}
use Rattle.ild_typed.specs.Fields.{is_scalar, is_implicit, entries_of, field_entries, are_absent, tuple_items, all_items}
use Rattle.ild_typed.specs.Strings.{in_key_order, listpairs, map_data, stringjoin, stringpairs}
use Rattle.ild_typed_alike.proofs.Texts.{blank_list, blank_listpairs, blank_map, blank_order, blank_stringjoin, blank_stringpairs}

-- the data of fields, blank
abbrev pub blank_options : List (Option Data) → List (Option Data)
blank_options os = map (option_map blank) os

scalar_of : (c : Scalar) (d : Data) → is_scalar c (blank d) ≡ is_scalar c d
scalar_of (C.Bool a) T.null = refl
scalar_of (C.Bool a) (T.boolean b) = refl
scalar_of (C.Bool a) (T.integer n) = refl
scalar_of (C.Bool a) (T.text s) = refl
scalar_of (C.Bool a) (T.bytes s) = refl
scalar_of (C.Bool a) (T.list ds) = refl
scalar_of (C.Bool a) (T.map ms) = refl
scalar_of (C.Bool a) (T.link s) = refl
scalar_of (C.Int a) T.null = refl
scalar_of (C.Int a) (T.boolean b) = refl
scalar_of (C.Int a) (T.integer n) = refl
scalar_of (C.Int a) (T.text s) = refl
scalar_of (C.Int a) (T.bytes s) = refl
scalar_of (C.Int a) (T.list ds) = refl
scalar_of (C.Int a) (T.map ms) = refl
scalar_of (C.Int a) (T.link s) = refl
scalar_of (C.Text a) T.null = refl
scalar_of (C.Text a) (T.boolean b) = refl
scalar_of (C.Text a) (T.integer n) = refl
scalar_of (C.Text a) (T.text s) = refl
scalar_of (C.Text a) (T.bytes s) = refl
scalar_of (C.Text a) (T.list ds) = refl
scalar_of (C.Text a) (T.map ms) = refl
scalar_of (C.Text a) (T.link s) = refl

implicit_of : (o : Option Scalar) (d : Data) → is_implicit o (blank d) ≡ is_implicit o d
implicit_of None d = refl
implicit_of (Some c) d = scalar_of c d

entry_of : (f : Field) (d : Data) → blank_entries (entries_of f d) ≡ entries_of f (blank d)
entry_of f d = by (is_implicit f.implicit d) ∙ ap (λ b. cond b [] ((field_text f, blank d) ∷ [])) (sym (implicit_of f.implicit d)) where
  by : (b : Bool) → blank_entries (cond b [] ((field_text f, d) ∷ [])) ≡ cond b [] ((field_text f, blank d) ∷ [])
  by true = refl
  by false = refl

abbrev FieldsData : Type 0
FieldsData = List (List ℕ × Data)

-- what is made of what may be none, and then made blank
pub over : {A B : Type 0} (f g : A → B) (j : A → A) (k : B → B) (o : Option A) → ((a : A) → k (f a) ≡ g (j a)) → option_map k (option_map f o) ≡ option_map g (option_map j o)
over f g j k None each = refl
over f g j k (Some a) each = ap Some (each a)

pub chain : {A B : Type 0} (f g : A → Option B) (j : A → A) (k : B → B) (o : Option A) → ((a : A) → option_map k (f a) ≡ g (j a)) → option_map k (option_and_then f o) ≡ option_and_then g (option_map j o)
chain f g j k None each = refl
chain f g j k (Some a) each = each a

pub when : {A : Type 0} (g : A → A) (b : Bool) (o : Option A) → option_map g (cond b o None) ≡ cond b (option_map g o) None
when g true o = refl
when g false o = refl

blank_field_entries : (fs : List Field) (os : List (Option Data)) → option_map blank_entries (field_entries fs os) ≡ field_entries fs (blank_options os)
blank_field_entries [] [] = refl
blank_field_entries [] (o ∷ os) = refl
blank_field_entries (f ∷ fs) [] = refl
blank_field_entries (f ∷ fs) (Some d ∷ os) =
    over (λ (es : FieldsData). entries_of f d ++ es) (λ (es : FieldsData). entries_of f (blank d) ++ es) blank_entries blank_entries (field_entries fs os)
    (λ es. map-append blank_entry (entries_of f d) es ∙ ap (λ xs. xs ++ blank_entries es) (entry_of f d))
    ∙ ap (option_map (λ (es : FieldsData). entries_of f (blank d) ++ es)) (blank_field_entries fs os)
blank_field_entries (f ∷ fs) (None ∷ os) = when blank_entries f.optional (field_entries fs os) ∙ ap (λ o. cond f.optional o None) (blank_field_entries fs os)

absent_of : (fs : List Field) (os : List (Option Data)) → are_absent fs (blank_options os) ≡ are_absent fs os
absent_of [] [] = refl
absent_of [] (o ∷ os) = refl
absent_of (f ∷ fs) [] = refl
absent_of (f ∷ fs) (Some d ∷ os) = refl
absent_of (f ∷ fs) (None ∷ os) = ap (λ b. f.optional && b) (absent_of fs os)

blank_tuple : (fs : List Field) (os : List (Option Data)) → option_map (map blank) (tuple_items fs os) ≡ tuple_items fs (blank_options os)
blank_tuple [] [] = refl
blank_tuple [] (o ∷ os) = refl
blank_tuple (f ∷ fs) [] = refl
blank_tuple (f ∷ fs) (Some d ∷ os) =
    over (λ (ds : List Data). d ∷ ds) (λ (ds : List Data). blank d ∷ ds) (map blank) (map blank) (tuple_items fs os) (λ ds. refl) ∙ ap (option_map (λ (ds : List Data). blank d ∷ ds)) (blank_tuple fs os)
blank_tuple (f ∷ fs) (None ∷ os) = when (map blank) (are_absent (f ∷ fs) (None ∷ os)) (Some []) ∙ ap (λ b. cond b (Some []) None) (sym (absent_of (f ∷ fs) (None ∷ os)))

blank_all : (fs : List Field) (os : List (Option Data)) → option_map (map blank) (all_items fs os) ≡ all_items fs (blank_options os)
blank_all [] [] = refl
blank_all [] (o ∷ os) = refl
blank_all (f ∷ fs) [] = refl
blank_all (f ∷ fs) (Some d ∷ os) =
    over (λ (ds : List Data). d ∷ ds) (λ (ds : List Data). blank d ∷ ds) (map blank) (map blank) (all_items fs os) (λ ds. refl) ∙ ap (option_map (λ (ds : List Data). blank d ∷ ds)) (blank_all fs os)
blank_all (f ∷ fs) (None ∷ os) = refl

pub blank_struct : (form : StructForm) (fs : List Field) (os : List (Option Data)) → option_map blank (struct_form form fs os) ≡ struct_form form fs (blank_options os)
blank_struct S.Map fs os =
    over (λ es. map_data (in_key_order es)) (λ es. map_data (in_key_order es)) blank_entries blank (field_entries fs os) (λ es. blank_map (in_key_order es) ∙ ap map_data (blank_order es))
    ∙ ap (option_map (λ es. map_data (in_key_order es))) (blank_field_entries fs os)
blank_struct S.Tuple fs os =
    over (λ (ds : List Data). T.list (T.items_of ds)) (λ (ds : List Data). T.list (T.items_of ds)) (map blank) blank (tuple_items fs os) blank_list ∙ ap (option_map (λ (ds : List Data). T.list (T.items_of ds))) (blank_tuple fs os)
blank_struct S.ListPairs fs os = over listpairs listpairs blank_entries blank (field_entries fs os) blank_listpairs ∙ ap (option_map listpairs) (blank_field_entries fs os)
blank_struct (S.StringPairs inner entry) fs os =
    chain (stringpairs inner entry) (stringpairs inner entry) blank_entries blank (field_entries fs os) (blank_stringpairs inner entry) ∙ ap (option_and_then (stringpairs inner entry)) (blank_field_entries fs os)
blank_struct (S.StringJoin delim) fs os = chain (stringjoin delim) (stringjoin delim) (map blank) blank (all_items fs os) (blank_stringjoin delim) ∙ ap (option_and_then (stringjoin delim)) (blank_all fs os)
