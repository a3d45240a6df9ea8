-- What is derived is read: settings and representations.
use Rattle.std.proofs.Common.{◌≡◌, ℕ, true, false, List, ◌∷◌, Result, Ok, Option, Some, None, refl, inl, inr}
use Rattle.std.specs.Prelude.{codes}
use Rattle.ild_parse_grammar.specs.declared.ast.MapForm.{MapForm}
use Rattle.ild_parse_grammar.specs.declared.ast.MapForm.TheVariants as MF
use Rattle.ild_parse_grammar.specs.declared.ast.StructForm.{StructForm}
use Rattle.ild_parse_grammar.specs.declared.ast.StructForm.TheVariants as SF
use Rattle.ild_parse_grammar.specs.declared.ast.UnionForm.{UnionForm}
use Rattle.ild_parse_grammar.specs.declared.ast.UnionForm.TheVariants as UF
use Rattle.ild_parse_grammar.specs.declared.ast.EnumForm.{EnumForm}
use Rattle.ild_parse_grammar.specs.declared.ast.EnumForm.TheVariants as EF
use Rattle.ild_parse_grammar.specs.declared.ast.UnitForm.{UnitForm}
use Rattle.ild_parse_grammar.specs.declared.ast.UnitForm.TheVariants as NF
use Rattle.ild_parse_grammar.specs.declared.ast.Pairs.{Pairs}
use Rattle.ild_parse_grammar.specs.declared.ast.Envelope.{Envelope}
use Rattle.ild_parse_grammar.specs.declared.ast.Text.{Text}
use Rattle.ild_parse_grammar.specs.Sign.{Sign}
use Rattle.ild_parse_grammar.proofs.Stream.{Stream, begins}
use Rattle.ild_parse_grammar.proofs.Read.{setting_at, one_setting_at, both_settings_at, two_settings_at}
use Rattle.ild_parse_grammar.proofs.Form.{pairs_at, map_form_at, struct_form_at, envelope_at, union_form_at, enum_form_at, unit_form_at, optional_form_at, needed_form_at}
use Rattle.ild_parse_grammar.specs.Derive.{IsOptional, IsFormed}
use Rattle.ild_parse_grammar.specs.DeriveForm.{IsSetting, IsOneSetting, AreBothSettings, AreTwoSettings, IsPairs, IsMapForm, IsStructForm, IsEnvelope, IsUnionForm, IsEnumForm, IsUnitForm}
use Rattle.ild_parse_grammar.proofs.Complete.{reading, word_sign, by_word, word-complete, type-complete, text-complete}

pub setting-complete : (end : ℕ) (key : List ℕ) (x : Text) (xs ys : List Sign) → IsSetting key x xs ys → setting_at key (reading end xs) ≡ Ok (x, reading end ys)
unfolding setting_at
setting-complete end key x xs ys h = rw (word-complete end key xs h.0 h.1, text-complete end x h.0 ys h.2) refl

pub one_setting-complete : (end : ℕ) (key : List ℕ) (x : Text) (xs ys : List Sign) → IsOneSetting key x xs ys → one_setting_at key (reading end xs) ≡ Ok (x, reading end ys)
unfolding one_setting_at
one_setting-complete end key x xs ys h = rw (word-complete end (codes "{") xs h.0 h.2, setting-complete end key x h.0 h.1 h.3, word-complete end (codes "}") h.1 ys h.4) refl

-- the first key is not the second one
abbrev pub AreTwoKeys : List ℕ → List ℕ → Type 0
AreTwoKeys a b = (at : ℕ) (zs : List Sign) → (begins a (word_sign a at ∷ zs) ≡ true) × (begins a (word_sign b at ∷ zs) ≡ false)

pub both_settings-complete : (end : ℕ) (a b : List ℕ) → AreTwoKeys a b → (x y : Text) (xs ys : List Sign) → AreBothSettings a b x y xs ys → both_settings_at a b (reading end xs) ≡ Ok ((x, y), reading end ys)
unfolding both_settings_at
both_settings-complete end a b two x y xs ys (inl h) =
    let first = by_word (λ (zs : List Sign). begins a zs ≡ true) a xs h.1.0 h.1.1 (λ at. (two at h.1.0).0) in
    rw (first, setting-complete end a x xs h.0 h.1, setting-complete end b y h.0 ys h.2) refl
both_settings-complete end a b two x y xs ys (inr h) =
    let other = by_word (λ (zs : List Sign). begins a zs ≡ false) b xs h.1.0 h.1.1 (λ at. (two at h.1.0).1) in
    rw (other, setting-complete end b y xs h.0 h.1, setting-complete end a x h.0 ys h.2) refl

pub two_settings-complete : (end : ℕ) (a b : List ℕ) → AreTwoKeys a b → (x y : Text) (xs ys : List Sign) → AreTwoSettings a b x y xs ys → two_settings_at a b (reading end xs) ≡ Ok ((x, y), reading end ys)
unfolding two_settings_at
two_settings-complete end a b two x y xs ys h =
    rw (word-complete end (codes "{") xs h.0 h.2, both_settings-complete end a b two x y h.0 h.1 h.3, word-complete end (codes "}") h.1 ys h.4) refl

pub pairs-complete : (end : ℕ) (p : Pairs) (xs ys : List Sign) → IsPairs p xs ys → pairs_at (reading end xs) ≡ Ok (p, reading end ys)
unfolding pairs_at
pairs-complete end p xs ys h = rw (two_settings-complete end (codes "innerDelim") (codes "entryDelim") (λ at zs. (refl, refl)) p.inner p.entry xs ys h) refl

pub envelope-complete : (end : ℕ) (p : Envelope) (xs ys : List Sign) → IsEnvelope p xs ys → envelope_at (reading end xs) ≡ Ok (p, reading end ys)
unfolding envelope_at
envelope-complete end p xs ys h = rw (two_settings-complete end (codes "discriminantKey") (codes "contentKey") (λ at zs. (refl, refl)) p.discriminant p.content xs ys h) refl

pub map_form-complete : (end : ℕ) (f : MapForm) (xs ys : List Sign) → IsMapForm f xs ys → map_form_at (reading end xs) ≡ Ok (f, reading end ys)
unfolding map_form_at
map_form-complete end MF.Map xs ys h = by_word (λ (zs : List Sign). map_form_at (reading end zs) ≡ Ok (MF.Map, reading end ys)) (codes "map") xs ys h (λ at. refl)
map_form-complete end MF.ListPairs xs ys h = by_word (λ (zs : List Sign). map_form_at (reading end zs) ≡ Ok (MF.ListPairs, reading end ys)) (codes "listpairs") xs ys h (λ at. refl)
map_form-complete end (MF.StringPairs p) xs ys h = by_word (λ (zs : List Sign). map_form_at (reading end zs) ≡ Ok (MF.StringPairs p, reading end ys)) (codes "stringpairs") xs h.0 h.1 (λ at. rw (pairs-complete end p h.0 ys h.2) refl)
map_form-complete end (MF.Advanced n) xs ys h = by_word (λ (zs : List Sign). map_form_at (reading end zs) ≡ Ok (MF.Advanced n, reading end ys)) (codes "advanced") xs h.0 h.1 (λ at. rw (type-complete end n h.0 ys h.2) refl)

pub struct_form-complete : (end : ℕ) (f : StructForm) (xs ys : List Sign) → IsStructForm f xs ys → struct_form_at (reading end xs) ≡ Ok (f, reading end ys)
unfolding struct_form_at
struct_form-complete end SF.Map xs ys h = by_word (λ (zs : List Sign). struct_form_at (reading end zs) ≡ Ok (SF.Map, reading end ys)) (codes "map") xs ys h (λ at. refl)
struct_form-complete end SF.Tuple xs ys h = by_word (λ (zs : List Sign). struct_form_at (reading end zs) ≡ Ok (SF.Tuple, reading end ys)) (codes "tuple") xs ys h (λ at. refl)
struct_form-complete end SF.ListPairs xs ys h = by_word (λ (zs : List Sign). struct_form_at (reading end zs) ≡ Ok (SF.ListPairs, reading end ys)) (codes "listpairs") xs ys h (λ at. refl)
struct_form-complete end (SF.StringPairs p) xs ys h = by_word (λ (zs : List Sign). struct_form_at (reading end zs) ≡ Ok (SF.StringPairs p, reading end ys)) (codes "stringpairs") xs h.0 h.1 (λ at. rw (pairs-complete end p h.0 ys h.2) refl)
struct_form-complete end (SF.StringJoin t) xs ys h = by_word (λ (zs : List Sign). struct_form_at (reading end zs) ≡ Ok (SF.StringJoin t, reading end ys)) (codes "stringjoin") xs h.0 h.1 (λ at. rw (one_setting-complete end (codes "join") t h.0 ys h.2) refl)

pub union_form-complete : (end : ℕ) (f : UnionForm) (xs ys : List Sign) → IsUnionForm f xs ys → union_form_at (reading end xs) ≡ Ok (f, reading end ys)
unfolding union_form_at
union_form-complete end UF.Keyed xs ys h = by_word (λ (zs : List Sign). union_form_at (reading end zs) ≡ Ok (UF.Keyed, reading end ys)) (codes "keyed") xs ys h (λ at. refl)
union_form-complete end UF.Kinded xs ys h = by_word (λ (zs : List Sign). union_form_at (reading end zs) ≡ Ok (UF.Kinded, reading end ys)) (codes "kinded") xs ys h (λ at. refl)
union_form-complete end UF.StringPrefix xs ys h = by_word (λ (zs : List Sign). union_form_at (reading end zs) ≡ Ok (UF.StringPrefix, reading end ys)) (codes "stringprefix") xs ys h (λ at. refl)
union_form-complete end UF.BytesPrefix xs ys h = by_word (λ (zs : List Sign). union_form_at (reading end zs) ≡ Ok (UF.BytesPrefix, reading end ys)) (codes "bytesprefix") xs ys h (λ at. refl)
union_form-complete end (UF.Envelope p) xs ys h = by_word (λ (zs : List Sign). union_form_at (reading end zs) ≡ Ok (UF.Envelope p, reading end ys)) (codes "envelope") xs h.0 h.1 (λ at. rw (envelope-complete end p h.0 ys h.2) refl)
union_form-complete end (UF.Inline t) xs ys h = by_word (λ (zs : List Sign). union_form_at (reading end zs) ≡ Ok (UF.Inline t, reading end ys)) (codes "inline") xs h.0 h.1 (λ at. rw (one_setting-complete end (codes "discriminantKey") t h.0 ys h.2) refl)

pub enum_form-complete : (end : ℕ) (f : EnumForm) (xs ys : List Sign) → IsEnumForm f xs ys → enum_form_at (reading end xs) ≡ Ok (f, reading end ys)
unfolding enum_form_at
enum_form-complete end EF.String xs ys h = by_word (λ (zs : List Sign). enum_form_at (reading end zs) ≡ Ok (EF.String, reading end ys)) (codes "string") xs ys h (λ at. refl)
enum_form-complete end EF.Int xs ys h = by_word (λ (zs : List Sign). enum_form_at (reading end zs) ≡ Ok (EF.Int, reading end ys)) (codes "int") xs ys h (λ at. refl)

pub unit_form-complete : (end : ℕ) (f : UnitForm) (xs ys : List Sign) → IsUnitForm f xs ys → unit_form_at (reading end xs) ≡ Ok (f, reading end ys)
unfolding unit_form_at
unit_form-complete end NF.Null xs ys h = by_word (λ (zs : List Sign). unit_form_at (reading end zs) ≡ Ok (NF.Null, reading end ys)) (codes "null") xs ys h (λ at. refl)
unit_form-complete end NF.True xs ys h = by_word (λ (zs : List Sign). unit_form_at (reading end zs) ≡ Ok (NF.True, reading end ys)) (codes "true") xs ys h (λ at. refl)
unit_form-complete end NF.False xs ys h = by_word (λ (zs : List Sign). unit_form_at (reading end zs) ≡ Ok (NF.False, reading end ys)) (codes "false") xs ys h (λ at. refl)
unit_form-complete end NF.EmptyMap xs ys h = by_word (λ (zs : List Sign). unit_form_at (reading end zs) ≡ Ok (NF.EmptyMap, reading end ys)) (codes "emptymap") xs ys h (λ at. refl)

-- a form that reading finds where it is derived
abbrev pub IsFound : {A : Type 0} → (Stream → Result (A × Stream) ℕ) → (A → List Sign → List Sign → Type 0) → ℕ → Type 0
IsFound {A} form is end = (f : A) (xs ys : List Sign) → is f xs ys → form (reading end xs) ≡ Ok (f, reading end ys)

pub optional_form-complete : {A : Type 0} (form : Stream → Result (A × Stream) ℕ) (is : A → List Sign → List Sign → Type 0) (end : ℕ) → IsFound form is end
    → (f : Option A) (xs ys : List Sign) → IsOptional (IsFormed is) f xs ys → begins (codes "representation") ys ≡ false → optional_form_at form (reading end xs) ≡ Ok (f, reading end ys)
unfolding optional_form_at
optional_form-complete form is end each None xs ys h off = rw (h, off) refl
optional_form-complete form is end each (Some f) xs ys h off =
    by_word (λ (zs : List Sign). optional_form_at form (reading end zs) ≡ Ok (Some f, reading end ys)) (codes "representation") xs h.0 h.1 (λ at. rw (each f h.0 ys h.2) refl)

pub needed_form-complete : {A : Type 0} (form : Stream → Result (A × Stream) ℕ) (is : A → List Sign → List Sign → Type 0) (end : ℕ) → IsFound form is end
    → (f : A) (xs ys : List Sign) → IsFormed is f xs ys → needed_form_at form (reading end xs) ≡ Ok (f, reading end ys)
unfolding needed_form_at
needed_form-complete form is end each f xs ys h = rw (word-complete end (codes "representation") xs h.0 h.1) (each f h.0 ys h.2)
