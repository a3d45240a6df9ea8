-- How a schema is read from left to right: its tree, or the place of the first token with which nothing goes on.
use Rattle.std.specs.Prelude.{ℕ, Bool, List, codes, Result, Ok, Err, if◌then◌else◌}
use Rattle.ild_lex.specs.declared.token.Token.{Token}
use Rattle.ild_parse_grammar.specs.declared.ast.Ast.{Ast}
use Rattle.ild_parse_grammar.specs.declared.ast.Decl.{Decl}
use Rattle.ild_parse_grammar.specs.declared.ast.Decl.TheVariants as D
use Rattle.ild_parse_grammar.specs.declared.ast.TypeDecl.{TypeDecl}
use Rattle.ild_parse_grammar.specs.declared.ast.Body.{Body}
use Rattle.ild_parse_grammar.specs.declared.ast.Body.TheVariants as B
use Rattle.ild_parse_grammar.specs.declared.ast.MapBody.{MapBody}
use Rattle.ild_parse_grammar.specs.declared.ast.StructBody.{StructBody}
use Rattle.ild_parse_grammar.specs.declared.ast.UnionBody.{UnionBody}
use Rattle.ild_parse_grammar.specs.declared.ast.EnumBody.{EnumBody}
use Rattle.ild_parse_grammar.specs.declared.ast.UnitForm.{UnitForm}
use Rattle.ild_parse_grammar.proofs.Stream.{Stream, stream, place, next_is, rest_of, most, is_end}
use Rattle.ild_parse_grammar.proofs.Read.{◌>>=◌, literal_at, type_name_at, many_at}
use Rattle.ild_parse_grammar.proofs.Refer.{ref_at}
use Rattle.ild_parse_grammar.specs.Derive.{deepest}
use Rattle.ild_parse_grammar.proofs.Form.{map_form_at, struct_form_at, union_form_at, enum_form_at, unit_form_at, optional_form_at, needed_form_at}
use Rattle.ild_parse_grammar.proofs.Part.{field_at, member_at, enum_member_at}

abbrev pub closes : Stream → Bool
closes s = next_is (codes "}") s

-- "{" { part } "}"
unfoldable pub braced_at : {A : Type 0} → (Stream → Result (A × Stream) ℕ) → Stream → Result (List A × Stream) ℕ
braced_at part s = do
  t ← literal_at (codes "{") s
  xs ← many_at part closes (most t) t
  u ← literal_at (codes "}") xs.1
  Ok (xs.0, u)

-- "{" Type ":" ref "}" [ "representation" form ]
unfoldable pub map_at : Stream → Result (MapBody × Stream) ℕ
map_at s = do
  t ← literal_at (codes "{") s
  k ← type_name_at t
  u ← literal_at (codes ":") k.1
  v ← ref_at deepest u
  w ← literal_at (codes "}") v.1
  f ← optional_form_at map_form_at w
  Ok (record { key = k.0; value = v.0; form = f.0 }, f.1)

-- "struct" "{" { field } "}" [ "representation" form ]
unfoldable pub struct_at : Stream → Result (StructBody × Stream) ℕ
struct_at s = do
  t ← literal_at (codes "struct") s
  fs ← braced_at field_at t
  f ← optional_form_at struct_form_at fs.1
  Ok (record { fields = fs.0; form = f.0 }, f.1)

-- "union" "{" { "|" member } "}" "representation" form
unfoldable pub union_at : Stream → Result (UnionBody × Stream) ℕ
union_at s = do
  t ← literal_at (codes "union") s
  ms ← braced_at member_at t
  f ← needed_form_at union_form_at ms.1
  Ok (record { members = ms.0; form = f.0 }, f.1)

-- "enum" "{" { "|" member } "}" [ "representation" form ]
unfoldable pub enum_at : Stream → Result (EnumBody × Stream) ℕ
enum_at s = do
  t ← literal_at (codes "enum") s
  ms ← braced_at enum_member_at t
  f ← optional_form_at enum_form_at ms.1
  Ok (record { members = ms.0; form = f.0 }, f.1)

-- "unit" "representation" form
unfoldable pub unit_at : Stream → Result (UnitForm × Stream) ℕ
unit_at s = do
  t ← literal_at (codes "unit") s
  needed_form_at unit_form_at t

-- "[" ref "]"
unfoldable pub list_at : Stream → Result (Body × Stream) ℕ
list_at s = do
  t ← literal_at (codes "[") s
  r ← ref_at deepest t
  u ← literal_at (codes "]") r.1
  Ok (B.List r.0, u)

-- a word alone
unfoldable pub scalar_at : Stream → Result (Body × Stream) ℕ
scalar_at s =
    if next_is (codes "bool") s then Ok (B.Bool, rest_of s)
    else if next_is (codes "string") s then Ok (B.String, rest_of s)
    else if next_is (codes "bytes") s then Ok (B.Bytes, rest_of s)
    else if next_is (codes "int") s then Ok (B.Int, rest_of s)
    else if next_is (codes "float") s then Ok (B.Float (place s), rest_of s)
    else if next_is (codes "any") s then Ok (B.Any, rest_of s)
    else Err (place s)

unfoldable pub body_at : Stream → Result (Body × Stream) ℕ
body_at s =
    if next_is (codes "=") s then (type_name_at (rest_of s) >>= λ n. Ok (B.Copy n.0, n.1))
    else if next_is (codes "&") s then (type_name_at (rest_of s) >>= λ n. Ok (B.Link n.0, n.1))
    else if next_is (codes "[") s then list_at s
    else if next_is (codes "{") s then (map_at s >>= λ m. Ok (B.Map m.0, m.1))
    else if next_is (codes "struct") s then (struct_at s >>= λ b. Ok (B.Struct b.0, b.1))
    else if next_is (codes "union") s then (union_at s >>= λ b. Ok (B.Union b.0, b.1))
    else if next_is (codes "enum") s then (enum_at s >>= λ b. Ok (B.Enum b.0, b.1))
    else if next_is (codes "unit") s then (unit_at s >>= λ b. Ok (B.Unit b.0, b.1))
    else scalar_at s

-- "type" Type body
unfoldable pub type_decl_at : Stream → Result (TypeDecl × Stream) ℕ
type_decl_at s = do
  t ← literal_at (codes "type") s
  n ← type_name_at t
  b ← body_at n.1
  Ok (record { name = n.0; body = b.0 }, b.1)

-- decl = "type" Type body | "advanced" Type
unfoldable pub decl_at : Stream → Result (Decl × Stream) ℕ
decl_at s =
    if next_is (codes "advanced") s then (type_name_at (rest_of s) >>= λ n. Ok (D.Advanced n.0, n.1))
    else (type_decl_at s >>= λ t. Ok (D.Type t.0, t.1))

-- schema = { decl }
unfoldable pub schema_at : Stream → Result Ast ℕ
schema_at s = do
  ds ← many_at decl_at is_end (most s) s
  Ok (record { decls = ds.0 })
