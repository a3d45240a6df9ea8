-- Rules that two readers share, and what is left of a rule behind its first alternatives. No public call cites them.
use Rattle.std.specs.Prelude.{ℕ, List, codes, Option, Some, None, Result, Ok, Err, if◌then◌else◌}
use Rattle.ild_parse_grammar.specs.declared.ast.Body.{Body}
use Rattle.ild_parse_grammar.specs.declared.ast.Body.TheVariants as B
use Rattle.ild_parse_grammar.specs.declared.ast.Text.{Text}
use Rattle.ild_parse_grammar.specs.declared.ast.TypeName.{TypeName}
use Rattle.ild_parse_grammar.specs.declared.ast.UnionForm.{UnionForm}
use Rattle.ild_parse_grammar.specs.declared.ast.UnionForm.TheVariants as U
use Rattle.ild_parse_grammar.specs.declared.ast.Decl.{Decl}
use Rattle.ild_parse_grammar.specs.declared.ast.Decl.TheVariants as D
use Rattle.ild_parse_grammar.specs.Derive.{deepest}
use Rattle.ild_parse_grammar.specs.Reference.{Reference}
use Rattle.ild_parse_grammar.proofs.Stream.{Stream, place, next_is, rest_of}
use Rattle.ild_parse_grammar.proofs.Read.{◌>>=◌, literal_at, type_name_at, setting_at, one_setting_at}
use Rattle.ild_parse_grammar.proofs.Refer.{ref_at}
use Rattle.ild_parse_grammar.proofs.Form.{envelope_at, map_form_at, struct_form_at, union_form_at, enum_form_at, unit_form_at, optional_form_at, needed_form_at}
use Rattle.ild_parse_grammar.proofs.Part.{field_at, member_at, enum_member_at}
use Rattle.ild_parse_grammar.proofs.Grammar.{braced_at, scalar_at, body_at}

-- a part that was read, where this mark follows it
abbrev pub followed_at : {A : Type 0} → List ℕ → A → Stream → Result (A × Stream) ℕ
followed_at mark part s = do
  t ← literal_at mark s
  Ok (part, t)

-- "{" Type ":"
unfoldable pub key_at : Stream → Result (TypeName × Stream) ℕ
key_at s = do
  t ← literal_at (codes "{") s
  k ← type_name_at t
  u ← literal_at (codes ":") k.1
  Ok (k.0, u)

-- "{" Type ":" ref "}"
unfoldable pub pair_at : ℕ → Stream → Result ((TypeName × Reference) × Stream) ℕ
pair_at room s = do
  k ← key_at s
  v ← ref_at room k.1
  w ← literal_at (codes "}") v.1
  Ok ((k.0, v.0), w)

-- "[" ref "]"
unfoldable pub element_at : ℕ → Stream → Result (Reference × Stream) ℕ
element_at room s = do
  t ← literal_at (codes "[") s
  r ← ref_at room t
  u ← literal_at (codes "]") r.1
  Ok (r.0, u)

-- a Text b Text, in this order
unfoldable pub ordered_settings_at : List ℕ → List ℕ → Stream → Result ((Text × Text) × Stream) ℕ
ordered_settings_at a b s = do
  x ← setting_at a s
  y ← setting_at b x.1
  Ok ((x.0, y.0), y.1)

-- the representations of unions that have settings
unfoldable pub union_settings_at : Stream → Result (UnionForm × Stream) ℕ
union_settings_at s =
    if next_is (codes "envelope") s then (envelope_at (rest_of s) >>= λ e. Ok (U.Envelope e.0, e.1))
    else if next_is (codes "inline") s then (one_setting_at (codes "discriminantKey") (rest_of s) >>= λ t. Ok (U.Inline t.0, t.1))
    else Err (place s)

-- the body that a map is
unfoldable pub map_body_at : Stream → Result (Body × Stream) ℕ
map_body_at s = do
  p ← pair_at deepest s
  f ← optional_form_at map_form_at p.1
  Ok (B.Map (record { key = p.0.0; value = p.0.1; form = f.0 }), f.1)

-- the bodies behind `struct`, `union` and `enum`
unfoldable pub struct_behind : Stream → Result (Body × Stream) ℕ
struct_behind s = do
  fs ← braced_at field_at s
  f ← optional_form_at struct_form_at fs.1
  Ok (B.Struct (record { fields = fs.0; form = f.0 }), f.1)

unfoldable pub union_behind : Stream → Result (Body × Stream) ℕ
union_behind s = do
  ms ← braced_at member_at s
  f ← needed_form_at union_form_at ms.1
  Ok (B.Union (record { members = ms.0; form = f.0 }), f.1)

unfoldable pub enum_behind : Stream → Result (Body × Stream) ℕ
enum_behind s = do
  ms ← braced_at enum_member_at s
  f ← optional_form_at enum_form_at ms.1
  Ok (B.Enum (record { members = ms.0; form = f.0 }), f.1)

-- the body that the next token names by itself
unfoldable pub scalar_of : Stream → Option Body
scalar_of s =
    if next_is (codes "bool") s then Some B.Bool
    else if next_is (codes "string") s then Some B.String
    else if next_is (codes "bytes") s then Some B.Bytes
    else if next_is (codes "int") s then Some B.Int
    else if next_is (codes "float") s then Some (B.Float (place s))
    else if next_is (codes "any") s then Some B.Any
    else None

abbrev pub scalar_here : Stream → Option Body → Result (Body × Stream) ℕ
scalar_here s None = Err (place s)
scalar_here s (Some b) = Ok (b, rest_of s)

-- the bodies that begin with a word
unfoldable pub worded_body_at : Stream → Result (Body × Stream) ℕ
worded_body_at s =
    if next_is (codes "struct") s then struct_behind (rest_of s)
    else if next_is (codes "union") s then union_behind (rest_of s)
    else if next_is (codes "enum") s then enum_behind (rest_of s)
    else if next_is (codes "unit") s then (needed_form_at unit_form_at (rest_of s) >>= λ f. Ok (B.Unit f.0, f.1))
    else scalar_at s

-- the declaration that begins with `type`
unfoldable pub type_at : Stream → Result (Decl × Stream) ℕ
type_at s = do
  t ← literal_at (codes "type") s
  n ← type_name_at t
  b ← body_at n.1
  Ok (D.Type (record { name = n.0; body = b.0 }), b.1)
