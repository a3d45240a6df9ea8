-- Rules by the parts that two of them share.
use Rattle.std.proofs.Common.{◌≡◌, ◌∙◌, ℕ, Bool, true, false, List, Option, Some, None, refl, sym, ap, Result, Ok, Err}
use Rattle.std.specs.Prelude.{codes, if◌then◌else◌}
use Rattle.ild_parse_grammar.specs.declared.ast.TypeName.{TypeName}
use Rattle.ild_parse_grammar.specs.Derive.{deepest}
use Rattle.ild_parse_grammar.specs.Reference.{Reference, list, map}
use Rattle.ild_parse_grammar.specs.declared.ast.Body.{Body}
use Rattle.ild_parse_grammar.specs.declared.ast.Body.TheVariants as B
use Rattle.ild_parse_grammar.specs.declared.ast.MapBody.{MapBody}
use Rattle.ild_parse_grammar.specs.declared.ast.StructBody.{StructBody}
use Rattle.ild_parse_grammar.specs.declared.ast.UnionBody.{UnionBody}
use Rattle.ild_parse_grammar.specs.declared.ast.EnumBody.{EnumBody}
use Rattle.ild_parse_grammar.specs.declared.ast.Decl.{Decl}
use Rattle.ild_parse_grammar.specs.declared.ast.Decl.TheVariants as D
use Rattle.ild_parse_grammar.specs.declared.ast.Text.{Text}
use Rattle.ild_parse_grammar.proofs.Stream.{Stream, place, next_is, rest_of}
use Rattle.ild_parse_grammar.proofs.Read.{◌>>=◌, literal_at, type_name_at, setting_at, both_settings_at}
use Rattle.ild_parse_grammar.proofs.Refer.{ref_at, inline_at, list_with, map_with}
use Rattle.ild_parse_grammar.proofs.Form.{map_form_at, struct_form_at, union_form_at, enum_form_at, unit_form_at, optional_form_at, needed_form_at}
use Rattle.ild_parse_grammar.proofs.Part.{field_at, member_at, enum_member_at}
use Rattle.ild_parse_grammar.proofs.Grammar.{braced_at, map_at, list_at, struct_at, union_at, enum_at, unit_at, scalar_at, body_at, type_decl_at, decl_at}
use Rattle.ild_parse.specs.inside.Rules.{key_at, pair_at, element_at, ordered_settings_at, struct_behind, union_behind, enum_behind, worded_body_at, scalar_of, scalar_here, map_body_at, type_at}

-- a step behind the last of two, or of three, is a step of the whole
step : {A B C : Type 0} (m : Result A ℕ) (f : A → B) (g : B → Result C ℕ) → (m >>= λ x. g (f x)) ≡ ((m >>= λ x. Ok (f x)) >>= g)
step (Ok x) f g = refl
step (Err e) f g = refl

two_steps : {A B C D : Type 0} (m : Result A ℕ) (n : A → Result B ℕ) (f : A → B → C) (g : C → Result D ℕ) → (m >>= λ x. n x >>= λ y. g (f x y)) ≡ ((m >>= λ x. n x >>= λ y. Ok (f x y)) >>= g)
two_steps (Ok x) n f g = step (n x) (f x) g
two_steps (Err e) n f g = refl

three_steps : {A B C D E : Type 0} (m : Result A ℕ) (n : A → Result B ℕ) (o : A → B → Result C ℕ) (f : A → B → C → D) (g : D → Result E ℕ) → (m >>= λ x. n x >>= λ y. o x y >>= λ z. g (f x y z)) ≡ ((m >>= λ x. n x >>= λ y. o x y >>= λ z. Ok (f x y z)) >>= g)
three_steps (Ok x) n o f g = two_steps (n x) (o x) (f x) g
three_steps (Err e) n o f g = refl

-- what is done with a pair is done behind its parts
by_pair : {A : Type 0} (room : ℕ) (s : Stream) (g : (TypeName × Reference) × Stream → Result A ℕ)
    → (literal_at (codes "{") s >>= λ t. type_name_at t >>= λ k. literal_at (codes ":") k.1 >>= λ u. ref_at room u >>= λ v. literal_at (codes "}") v.1 >>= λ w. g ((k.0, v.0), w))
    ≡ (pair_at room s >>= g)
unfolding pair_at key_at
by_pair room s g =
    three_steps (literal_at (codes "{") s) (λ t. type_name_at t) (λ t k. literal_at (codes ":") k.1) (λ t k u. (k.0, u)) (λ k. ref_at room k.1 >>= λ v. literal_at (codes "}") v.1 >>= λ w. g ((k.0, v.0), w))
    ∙ three_steps (key_at s) (λ k. ref_at room k.1) (λ k v. literal_at (codes "}") v.1) (λ k v w. ((k.0, v.0), w)) g

by_element : {A : Type 0} (room : ℕ) (s : Stream) (g : Reference × Stream → Result A ℕ)
    → (literal_at (codes "[") s >>= λ t. ref_at room t >>= λ r. literal_at (codes "]") r.1 >>= λ u. g (r.0, u)) ≡ (element_at room s >>= g)
unfolding element_at
by_element room s g = three_steps (literal_at (codes "[") s) (λ t. ref_at room t) (λ t r. literal_at (codes "]") r.1) (λ t r u. (r.0, u)) g

pub map_by_pair : (room : ℕ) (s : Stream) → map_with (inline_at room) s ≡ (pair_at room s >>= λ p. Ok (map p.0.0 p.0.1, p.1))
unfolding map_with
map_by_pair room s = by_pair room s (λ p. Ok (map p.0.0 p.0.1, p.1))

map_body_by_pair : (s : Stream) → (map_at s >>= λ m. Ok (B.Map m.0, m.1)) ≡ map_body_at s
unfolding map_at map_body_at
map_body_by_pair s =
    ap (λ (r : Result (MapBody × Stream) ℕ). r >>= λ m. Ok (B.Map m.0, m.1)) (by_pair deepest s (λ p. optional_form_at map_form_at p.1 >>= λ f. Ok (record { key = p.0.0; value = p.0.1; form = f.0 }, f.1)))
    ∙ sym (two_steps (pair_at deepest s) (λ p. optional_form_at map_form_at p.1) (λ p f. (record { key = p.0.0; value = p.0.1; form = f.0 }, f.1)) (λ m. Ok (B.Map m.0, m.1)))

pub list_by_element : (room : ℕ) (s : Stream) → list_with (inline_at room) s ≡ (element_at room s >>= λ r. Ok (list r.0, r.1))
unfolding list_with
list_by_element room s = by_element room s (λ r. Ok (list r.0, r.1))

pub list_body_by_element : (s : Stream) → list_at s ≡ (element_at deepest s >>= λ r. Ok (B.List r.0, r.1))
unfolding list_at
list_body_by_element s = by_element deepest s (λ r. Ok (B.List r.0, r.1))

pub both_by_order : (a b : List ℕ) (s : Stream) → both_settings_at a b s ≡ (if next_is a s then ordered_settings_at a b s else (ordered_settings_at b a s >>= λ p. Ok ((p.0.1, p.0.0), p.1)))
unfolding both_settings_at ordered_settings_at
both_by_order a b s =
    ap (λ (r : Result ((Text × Text) × Stream) ℕ). if next_is a s then ordered_settings_at a b s else r)
    (two_steps (setting_at b s) (λ y. setting_at a y.1) (λ y x. ((y.0, x.0), x.1)) (λ p. Ok ((p.0.1, p.0.0), p.1)))

-- a rule that begins with a word, where that word was seen
seen : {A B C : Type 0} (b : Bool) (next : A) (at : ℕ) (f : A → Result B ℕ) (g : B → Result C ℕ) (m n : Result C ℕ) → m ≡ n
    → (if b then (((if b then Ok next else Err at) >>= f) >>= g) else m) ≡ (if b then (f next >>= g) else n)
seen true next at f g m n e = refl
seen false next at f g m n e = e

body_word : {B : Type 0} (word : List ℕ) (f : Stream → Result (B × Stream) ℕ) (g : B → Body) (h : Stream → Result (Body × Stream) ℕ) (s : Stream) (m n : Result (Body × Stream) ℕ)
    → ((t : Stream) → (f t >>= λ b. Ok (g b.0, b.1)) ≡ h t) → m ≡ n
    → (if next_is word s then ((literal_at word s >>= f) >>= λ b. Ok (g b.0, b.1)) else m) ≡ (if next_is word s then h (rest_of s) else n)
unfolding literal_at
body_word word f g h s m n whole e =
    seen (next_is word s) (rest_of s) (place s) f (λ b. Ok (g b.0, b.1)) m n e
    ∙ ap (λ (r : Result (Body × Stream) ℕ). if next_is word s then r else n) (whole (rest_of s))

-- what `struct`, `union` and `enum` have behind them is their body
abbrev struct_parts : Stream → Result (StructBody × Stream) ℕ
struct_parts s = do
  fs ← braced_at field_at s
  f ← optional_form_at struct_form_at fs.1
  Ok (record { fields = fs.0; form = f.0 }, f.1)

struct_body : (s : Stream) → (struct_parts s >>= λ b. Ok (B.Struct b.0, b.1)) ≡ struct_behind s
unfolding struct_behind
struct_body s = sym (two_steps (braced_at field_at s) (λ fs. optional_form_at struct_form_at fs.1) (λ fs f. (record { fields = fs.0; form = f.0 }, f.1)) (λ b. Ok (B.Struct b.0, b.1)))

abbrev union_parts : Stream → Result (UnionBody × Stream) ℕ
union_parts s = do
  ms ← braced_at member_at s
  f ← needed_form_at union_form_at ms.1
  Ok (record { members = ms.0; form = f.0 }, f.1)

union_body : (s : Stream) → (union_parts s >>= λ b. Ok (B.Union b.0, b.1)) ≡ union_behind s
unfolding union_behind
union_body s = sym (two_steps (braced_at member_at s) (λ ms. needed_form_at union_form_at ms.1) (λ ms f. (record { members = ms.0; form = f.0 }, f.1)) (λ b. Ok (B.Union b.0, b.1)))

abbrev enum_parts : Stream → Result (EnumBody × Stream) ℕ
enum_parts s = do
  ms ← braced_at enum_member_at s
  f ← optional_form_at enum_form_at ms.1
  Ok (record { members = ms.0; form = f.0 }, f.1)

enum_body : (s : Stream) → (enum_parts s >>= λ b. Ok (B.Enum b.0, b.1)) ≡ enum_behind s
unfolding enum_behind
enum_body s = sym (two_steps (braced_at enum_member_at s) (λ ms. optional_form_at enum_form_at ms.1) (λ ms f. (record { members = ms.0; form = f.0 }, f.1)) (λ b. Ok (B.Enum b.0, b.1)))

worded : (s : Stream) →
    (if next_is (codes "struct") s then (struct_at s >>= λ b. Ok (B.Struct b.0, b.1))
    else if next_is (codes "union") s then (union_at s >>= λ b. Ok (B.Union b.0, b.1))
    else if next_is (codes "enum") s then (enum_at s >>= λ b. Ok (B.Enum b.0, b.1))
    else if next_is (codes "unit") s then (unit_at s >>= λ b. Ok (B.Unit b.0, b.1))
    else scalar_at s) ≡ worded_body_at s
unfolding struct_at union_at enum_at unit_at worded_body_at
worded s =
    body_word (codes "struct") struct_parts (λ b. B.Struct b) (λ t. struct_behind t) s _ _ struct_body
    (body_word (codes "union") union_parts (λ b. B.Union b) (λ t. union_behind t) s _ _ union_body
    (body_word (codes "enum") enum_parts (λ b. B.Enum b) (λ t. enum_behind t) s _ _ enum_body
    (body_word (codes "unit") (λ t. needed_form_at unit_form_at t) (λ b. B.Unit b) (λ t. needed_form_at unit_form_at t >>= λ f. Ok (B.Unit f.0, f.1)) s (scalar_at s) (scalar_at s) (λ t. refl) refl)))

pub body_by_words : (s : Stream) → body_at s ≡ (
    if next_is (codes "=") s then (type_name_at (rest_of s) >>= λ n. Ok (B.Copy n.0, n.1))
    else if next_is (codes "&") s then (type_name_at (rest_of s) >>= λ n. Ok (B.Link n.0, n.1))
    else if next_is (codes "[") s then list_at s
    else if next_is (codes "{") s then map_body_at s
    else worded_body_at s)
unfolding body_at
body_by_words s = ap2 (λ (m r : Result (Body × Stream) ℕ).
    if next_is (codes "=") s then (type_name_at (rest_of s) >>= λ n. Ok (B.Copy n.0, n.1))
    else if next_is (codes "&") s then (type_name_at (rest_of s) >>= λ n. Ok (B.Link n.0, n.1))
    else if next_is (codes "[") s then list_at s
    else if next_is (codes "{") s then m
    else r) (map_body_by_pair s) (worded s)
  where
    ap2 : {A B C : Type 0} (f : A → B → C) {a b : A} {c d : B} → a ≡ b → c ≡ d → f a c ≡ f b d
    ap2 f p q = λ i. f (p i) (q i)

pub decl_by_type : (s : Stream) → decl_at s ≡ (if next_is (codes "advanced") s then (type_name_at (rest_of s) >>= λ n. Ok (D.Advanced n.0, n.1)) else type_at s)
unfolding decl_at type_decl_at type_at
decl_by_type s =
    ap (λ (r : Result (Decl × Stream) ℕ). if next_is (codes "advanced") s then (type_name_at (rest_of s) >>= λ n. Ok (D.Advanced n.0, n.1)) else r)
    (sym (three_steps (literal_at (codes "type") s) (λ t. type_name_at t) (λ t n. body_at n.1) (λ t n b. (record { name = n.0; body = b.0 }, b.1)) (λ t. Ok (D.Type t.0, t.1))))

-- a word that names a body by itself
names : (b : Bool) (s : Stream) (body : Body) (o : Option Body) (r : Result (Body × Stream) ℕ) → r ≡ scalar_here s o
    → (if b then Ok (body, rest_of s) else r) ≡ scalar_here s (if b then Some body else o)
names true s body o r e = refl
names false s body o r e = e

pub scalar_by_word : (s : Stream) → scalar_at s ≡ scalar_here s (scalar_of s)
unfolding scalar_at scalar_of
scalar_by_word s =
    names (next_is (codes "bool") s) s B.Bool _ _
    (names (next_is (codes "string") s) s B.String _ _
    (names (next_is (codes "bytes") s) s B.Bytes _ _
    (names (next_is (codes "int") s) s B.Int _ _
    (names (next_is (codes "float") s) s (B.Float (place s)) _ _
    (names (next_is (codes "any") s) s B.Any None (Err (place s)) refl)))))
