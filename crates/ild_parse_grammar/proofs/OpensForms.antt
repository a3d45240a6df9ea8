-- Words, names, texts, numbers, settings and representations go on to a text of their rule.
use Rattle.std.proofs.Common.{◌≡◌, ℕ, Bool, true, false, cond, List, [], ◌∷◌, ◌++◌, Result, Ok, Err, Option, Some, None, refl, subst, inl, inr}
use Rattle.std.specs.Prelude.{codes, ℤ, pos}
use Rattle.ild_lex.specs.declared.token.TokenKind.TheVariants as K
use Rattle.ild_parse_grammar.specs.declared.ast.TypeName.{TypeName}
use Rattle.ild_parse_grammar.specs.declared.ast.Name.{Name}
use Rattle.ild_parse_grammar.specs.declared.ast.Text.{Text}
use Rattle.ild_parse_grammar.specs.declared.ast.Number.{Number}
use Rattle.ild_parse_grammar.specs.declared.ast.MapForm.TheVariants as MF
use Rattle.ild_parse_grammar.specs.declared.ast.StructForm.TheVariants as SF
use Rattle.ild_parse_grammar.specs.declared.ast.UnionForm.TheVariants as UF
use Rattle.ild_parse_grammar.specs.declared.ast.EnumForm.TheVariants as EF
use Rattle.ild_parse_grammar.specs.declared.ast.UnitForm.TheVariants as NF
use Rattle.ild_parse_grammar.specs.Sign.{Sign, is_type, is_name, is_text, is_number}
use Rattle.ild_parse_grammar.proofs.Stream.{Stream, begins}
use Rattle.ild_data.specs.Decimal.{decimal_of}
use Rattle.ild_parse_grammar.specs.Value.{meaning}
use Rattle.ild_parse_grammar.proofs.Read.{◌>>=◌, type_name_at, name_at, text_at, number_at, value_here, setting_at, one_setting_at, both_settings_at, two_settings_at}
use Rattle.ild_parse_grammar.proofs.Form.{pairs_at, map_form_at, struct_form_at, envelope_at, union_form_at, enum_form_at, unit_form_at, optional_form_at, needed_form_at}
use Rattle.ild_parse_grammar.specs.Derive.{IsTypeName, IsName, IsText, IsNumber, IsOptional, IsFormed}
use Rattle.ild_parse_grammar.specs.DeriveForm.{IsSetting, IsOneSetting, AreBothSettings, AreTwoSettings, IsPairs, IsEnvelope, IsMapForm, IsStructForm, IsUnionForm, IsEnumForm, IsUnitForm}
use Rattle.ild_parse_grammar.proofs.Complete.{reading}
use Rattle.ild_parse_grammar.proofs.Local.{token_read}
use Rattle.ild_parse_grammar.proofs.Opens.{Opens, Opened, IsWhole, Grows, opens_token, part_then, word_then, all_read, read_as, either, choice, last_choice, alone, last_alone}

-- ---- names, texts and numbers

found_if : {A : Type 0} (end : ℕ) (t : Sign) (us : List Sign) (b : Bool) (a : A) → cond b (Ok (a, reading end us)) (Err t.at) ≡ token_read end t us (cond b (Some a) None)
found_if end t us true a = refl
found_if end t us false a = refl

-- what a test keeps
kept : {A : Type 0} (b : Bool) (x a : A) → cond b (Some x) None ≡ Some a → (b ≡ true) × (x ≡ a)
kept true x a e = (refl, cc)
kept false x a e = absurd cc

-- a type's name comes here
type_grows : Grows IsTypeName []
type_grows = record { more = record { kind = K.Word; at = 0; text = codes "A" } ∷ []; made = record { at = 0; name = codes "A" }; whole = λ ws. (refl, refl, refl, refl) }

type_whole : (t : Sign) (a : TypeName) → cond (is_type (t ∷ [])) (Some (record { at = t.at; name = t.text })) None ≡ Some a → IsWhole IsTypeName a (t ∷ [])
type_whole t a e ws =
    let k = kept (is_type (t ∷ [])) (record { at = t.at; name = t.text }) a e in
    subst (λ (x : TypeName). IsTypeName x (t ∷ ws) ws) k.1 (k.0, refl, refl, refl)

pub type-opens : (end : ℕ) (xs : List Sign) → Opens type_name_at IsTypeName end xs
unfolding type_name_at
type-opens end xs = opens_token IsTypeName type_name_at end (λ t. cond (is_type (t ∷ [])) (Some (record { at = t.at; name = t.text })) None) refl
    (λ t us. found_if {A = TypeName} end t us (is_type (t ∷ [])) (record { at = t.at; name = t.text })) type_grows type_whole xs

-- a name comes here
name_grows : Grows IsName []
name_grows = record { more = record { kind = K.Word; at = 0; text = codes "a" } ∷ []; made = record { at = 0; name = codes "a" }; whole = λ ws. (refl, refl, refl, refl) }

name_whole : (t : Sign) (a : Name) → cond (is_name (t ∷ [])) (Some (record { at = t.at; name = t.text })) None ≡ Some a → IsWhole IsName a (t ∷ [])
name_whole t a e ws =
    let k = kept (is_name (t ∷ [])) (record { at = t.at; name = t.text }) a e in
    subst (λ (x : Name). IsName x (t ∷ ws) ws) k.1 (k.0, refl, refl, refl)

pub name-opens : (end : ℕ) (xs : List Sign) → Opens name_at IsName end xs
unfolding name_at
name-opens end xs = opens_token IsName name_at end (λ t. cond (is_name (t ∷ [])) (Some (record { at = t.at; name = t.text })) None) refl
    (λ t us. found_if {A = Name} end t us (is_name (t ∷ [])) (record { at = t.at; name = t.text })) name_grows name_whole xs

-- a text comes here
text_grows : Grows IsText []
text_grows = record { more = record { kind = K.Text; at = 0; text = 34 ∷ 34 ∷ [] } ∷ []; made = record { at = 0; text = meaning (34 ∷ 34 ∷ []) }; whole = λ ws. (refl, refl, refl, refl) }

text_whole : (t : Sign) (a : Text) → cond (is_text (t ∷ [])) (Some (record { at = t.at; text = meaning t.text })) None ≡ Some a → IsWhole IsText a (t ∷ [])
text_whole t a e ws =
    let k = kept (is_text (t ∷ [])) (record { at = t.at; text = meaning t.text }) a e in
    subst (λ (x : Text). IsText x (t ∷ ws) ws) k.1 (k.0, refl, refl, refl)

pub text-opens : (end : ℕ) (xs : List Sign) → Opens text_at IsText end xs
unfolding text_at
text-opens end xs = opens_token IsText text_at end (λ t. cond (is_text (t ∷ [])) (Some (record { at = t.at; text = meaning t.text })) None) refl
    (λ t us. found_if {A = Text} end t us (is_text (t ∷ [])) (record { at = t.at; text = meaning t.text })) text_grows text_whole xs

numbered : ℕ → Option ℤ → Option Number
numbered at None = None
numbered at (Some n) = Some (record { at = at; value = n })

-- a number comes here
number_grows : Grows IsNumber []
number_grows = record { more = record { kind = K.Number; at = 0; text = codes "0" } ∷ []; made = record { at = 0; value = pos 0 }; whole = λ ws. (refl, refl, refl, refl) }

numbered_is : (at : ℕ) (b : Bool) (v : Option ℤ) (a : Number) → cond b (numbered at v) None ≡ Some a → (b ≡ true) × (a.at ≡ at) × (v ≡ Some a.value)
unfolding numbered
numbered_is at true None a e = absurd cc
numbered_is at true (Some n) a e =
    let same : record { at = at; value = n } ≡ a = cc in
    subst (λ (x : Number). (true ≡ true) × (x.at ≡ at) × (Some n ≡ Some x.value)) same (refl, refl, refl)
numbered_is at false v a e = absurd cc

number_whole : (t : Sign) (a : Number) → cond (is_number (t ∷ [])) (numbered t.at (decimal_of t.text)) None ≡ Some a → IsWhole IsNumber a (t ∷ [])
number_whole t a e ws = let k = numbered_is t.at (is_number (t ∷ [])) (decimal_of t.text) a e in (k.0, k.1, k.2, refl)

pub number-opens : (end : ℕ) (xs : List Sign) → Opens number_at IsNumber end xs
unfolding number_at numbered
number-opens end xs = opens_token IsNumber number_at end (λ t. cond (is_number (t ∷ [])) (numbered t.at (decimal_of t.text)) None) refl
    (λ t us. each t us (is_number (t ∷ [])) (decimal_of t.text)) number_grows number_whole xs
  where
    each : (t : Sign) (us : List Sign) (b : Bool) (v : Option ℤ) → cond b (value_here (reading end (t ∷ us)) v) (Err t.at) ≡ token_read end t us (cond b (numbered t.at v) None)
    each t us true None = refl
    each t us true (Some n) = refl
    each t us false v = refl

-- ---- settings and representations

-- both texts of two settings
abbrev ArePair : (Text → Text → List Sign → List Sign → Type 0) → Text × Text → List Sign → List Sign → Type 0
ArePair part p xs ys = part p.0 p.1 xs ys

pub setting-opens : (key : List ℕ) (end : ℕ) → Opened (setting_at key) (IsSetting key) end
unfolding setting_at
setting-opens key end = word_then (λ t e. read_as (text-opens end) (λ x front d ws. (front ++ ws, (e.0, e.1, refl), d ws)))

pub one_setting-opens : (key : List ℕ) (end : ℕ) → Opened (one_setting_at key) (IsOneSetting key) end
unfolding one_setting_at
one_setting-opens key end =
    word_then (λ t e. part_then _ (setting-opens key end) (λ x front d. word_then (λ u c. all_read (λ ws. (front ++ (u ∷ ws), u ∷ ws, (e.0, e.1, refl), d (u ∷ ws), (c.0, c.1, refl))))))

pub both_settings-opens : (a b : List ℕ) (end : ℕ) → Opened (both_settings_at a b) (ArePair (AreBothSettings a b)) end
unfolding both_settings_at
both_settings-opens a b end =
    either (begins a) (λ t us zs. refl)
    (part_then _ (setting-opens a end) (λ x front d. part_then _ (setting-opens b end) (λ y more c. all_read (λ ws. inl (more ++ ws, d (more ++ ws), c ws)))))
    (part_then _ (setting-opens b end) (λ y front d. part_then _ (setting-opens a end) (λ x more c. all_read (λ ws. inr (more ++ ws, d (more ++ ws), c ws)))))

pub two_settings-opens : (a b : List ℕ) (end : ℕ) → Opened (two_settings_at a b) (ArePair (AreTwoSettings a b)) end
unfolding two_settings_at
two_settings-opens a b end =
    word_then (λ t e. part_then _ (both_settings-opens a b end) (λ p front d. word_then (λ u c. all_read (λ ws. (front ++ (u ∷ ws), u ∷ ws, (e.0, e.1, refl), d (u ∷ ws), (c.0, c.1, refl))))))

pub pairs-opens : (end : ℕ) → Opened pairs_at IsPairs end
unfolding pairs_at
pairs-opens end = part_then _ (two_settings-opens (codes "innerDelim") (codes "entryDelim") end) (λ p front d. all_read d)

pub envelope-opens : (end : ℕ) → Opened envelope_at IsEnvelope end
unfolding envelope_at
envelope-opens end = part_then _ (two_settings-opens (codes "discriminantKey") (codes "contentKey") end) (λ p front d. all_read d)

pub map_form-opens : (end : ℕ) → Opened map_form_at IsMapForm end
unfolding map_form_at
map_form-opens end =
    alone (codes "map") MF.Map (λ t e ws. (e.0, e.1, refl))
    (alone (codes "listpairs") MF.ListPairs (λ t e ws. (e.0, e.1, refl))
    (choice (codes "stringpairs") (λ n s. pairs_at s >>= (λ p. Ok (MF.StringPairs p.0, p.1))) (λ t e. part_then _ (pairs-opens end) (λ p front d. all_read (λ ws. (front ++ ws, (e.0, e.1, refl), d ws))))
    (last_choice (codes "advanced") (λ n s. type_name_at s >>= (λ m. Ok (MF.Advanced m.0, m.1))) (λ t e. part_then _ (type-opens end) (λ m front d. all_read (λ ws. (front ++ ws, (e.0, e.1, refl), d ws)))))))

pub struct_form-opens : (end : ℕ) → Opened struct_form_at IsStructForm end
unfolding struct_form_at
struct_form-opens end =
    alone (codes "map") SF.Map (λ t e ws. (e.0, e.1, refl))
    (alone (codes "tuple") SF.Tuple (λ t e ws. (e.0, e.1, refl))
    (alone (codes "listpairs") SF.ListPairs (λ t e ws. (e.0, e.1, refl))
    (choice (codes "stringpairs") (λ n s. pairs_at s >>= (λ p. Ok (SF.StringPairs p.0, p.1))) (λ t e. part_then _ (pairs-opens end) (λ p front d. all_read (λ ws. (front ++ ws, (e.0, e.1, refl), d ws))))
    (last_choice (codes "stringjoin") (λ n s. one_setting_at (codes "join") s >>= (λ x. Ok (SF.StringJoin x.0, x.1)))
    (λ t e. part_then _ (one_setting-opens (codes "join") end) (λ x front d. all_read (λ ws. (front ++ ws, (e.0, e.1, refl), d ws))))))))

pub union_form-opens : (end : ℕ) → Opened union_form_at IsUnionForm end
unfolding union_form_at
union_form-opens end =
    alone (codes "keyed") UF.Keyed (λ t e ws. (e.0, e.1, refl))
    (alone (codes "kinded") UF.Kinded (λ t e ws. (e.0, e.1, refl))
    (alone (codes "stringprefix") UF.StringPrefix (λ t e ws. (e.0, e.1, refl))
    (alone (codes "bytesprefix") UF.BytesPrefix (λ t e ws. (e.0, e.1, refl))
    (choice (codes "envelope") (λ n s. envelope_at s >>= (λ p. Ok (UF.Envelope p.0, p.1))) (λ t e. part_then _ (envelope-opens end) (λ p front d. all_read (λ ws. (front ++ ws, (e.0, e.1, refl), d ws))))
    (last_choice (codes "inline") (λ n s. one_setting_at (codes "discriminantKey") s >>= (λ x. Ok (UF.Inline x.0, x.1)))
    (λ t e. part_then _ (one_setting-opens (codes "discriminantKey") end) (λ x front d. all_read (λ ws. (front ++ ws, (e.0, e.1, refl), d ws)))))))))

pub enum_form-opens : (end : ℕ) → Opened enum_form_at IsEnumForm end
unfolding enum_form_at
enum_form-opens end = alone (codes "string") EF.String (λ t e ws. (e.0, e.1, refl)) (last_alone (codes "int") EF.Int (λ t e ws. (e.0, e.1, refl)))

pub unit_form-opens : (end : ℕ) → Opened unit_form_at IsUnitForm end
unfolding unit_form_at
unit_form-opens end =
    alone (codes "null") NF.Null (λ t e ws. (e.0, e.1, refl))
    (alone (codes "true") NF.True (λ t e ws. (e.0, e.1, refl))
    (alone (codes "false") NF.False (λ t e ws. (e.0, e.1, refl))
    (last_alone (codes "emptymap") NF.EmptyMap (λ t e ws. (e.0, e.1, refl)))))

pub optional_form-opens : {A : Type 0} (form : Stream → Result (A × Stream) ℕ) (part : A → List Sign → List Sign → Type 0) (end : ℕ) → Opened form part end → Opened (optional_form_at form) (IsOptional (IsFormed part)) end
unfolding optional_form_at
optional_form-opens form part end each =
    choice (codes "representation") (λ n s. form s >>= (λ f. Ok (Some f.0, f.1))) (λ t e. part_then _ each (λ f front d. all_read (λ ws. (front ++ ws, (e.0, e.1, refl), d ws)))) (all_read (λ ws. refl))

pub needed_form-opens : {A : Type 0} (form : Stream → Result (A × Stream) ℕ) (part : A → List Sign → List Sign → Type 0) (end : ℕ) → Opened form part end → Opened (needed_form_at form) (IsFormed part) end
unfolding needed_form_at
needed_form-opens form part end each = word_then (λ t e. read_as each (λ f front d ws. (front ++ ws, (e.0, e.1, refl), d ws)))
