-- Why data are no layer of a union (IPLD Schemas, "Union Representation Strategies"): each cause by itself.
use Rattle.std.specs.Prelude.{ℕ, Bool, false, ◌||◌, not, nat_eq, is_none, List, length, option_and_then}
use Rattle.std.specs.List.{list_any}
use Rattle.ild_data.specs.Data.{Data}
use Rattle.ild_data.specs.Key.{same_text, value_at}
use Rattle.ild_schema.specs.declared.def.UnionForm.{UnionForm}
use Rattle.ild_schema.specs.declared.def.UnionForm.TheVariants as UF
use Rattle.ild_schema.specs.declared.def.Member.{Member}
use Rattle.ild_schema.specs.Prefixes.{begins}
use Rattle.ild_typed.specs.Strings.{text_in, bytes_in, members_in}
use Rattle.ild_schema.specs.Marks.{mark_text}
use Rattle.ild_data.specs.Hex.{bytes_of_hex}
use Rattle.ild_typed.specs.Named.{where_some}

-- a text is that of a member
abbrev pub is_discriminant : List Member → List ℕ → Bool
is_discriminant ms k = list_any (λ m. where_some (λ s. same_text s k) (mark_text m.mark)) ms

-- data that are no text are none either
abbrev pub is_no_member : List Member → Data → Bool
is_no_member ms d = not (where_some (is_discriminant ms) (text_in d))

-- a member's prefix begins the text, or the bytes
abbrev pub has_prefix : List Member → List ℕ → Bool
has_prefix ms s = list_any (λ m. where_some (λ p. begins p s) (mark_text m.mark)) ms

abbrev pub has_bytes_prefix : List Member → List ℕ → Bool
has_bytes_prefix ms s = list_any (λ m. where_some (λ p. begins p s) (option_and_then bytes_of_hex (mark_text m.mark))) ms

-- ---- each cause, form by form

-- a key is neither of the two
abbrev pub union_name : UnionForm → Data → Bool
union_name (UF.Envelope key content) t =
    where_some (list_any (λ (e : List ℕ × Data). not (same_text key e.0 || same_text content e.0))) (members_in t)
union_name form t = false

abbrev pub union_missing : UnionForm → Data → Bool
union_missing (UF.Envelope key content) t = where_some (λ es. is_none (value_at key es) || is_none (value_at content es)) (members_in t)
union_missing (UF.Inline key) t = where_some (λ es. is_none (value_at key es)) (members_in t)
union_missing form t = false

abbrev pub union_count : UnionForm → Data → Bool
union_count UF.Keyed t = where_some (λ (es : List (List ℕ × Data)). not (nat_eq (length es) 1)) (members_in t)
union_count form t = false

abbrev pub union_prefix : UnionForm → List Member → Data → Bool
union_prefix UF.StringPrefix ms t = where_some (λ s. not (has_prefix ms s)) (text_in t)
union_prefix UF.BytesPrefix ms t = where_some (λ s. not (has_bytes_prefix ms s)) (bytes_in t)
union_prefix form ms t = false

abbrev pub union_member : UnionForm → List Member → Data → Bool
union_member UF.Keyed ms t = where_some (list_any (λ (e : List ℕ × Data). not (is_discriminant ms e.0))) (members_in t)
union_member (UF.Envelope key content) ms t = where_some (λ es. where_some (is_no_member ms) (value_at key es)) (members_in t)
union_member (UF.Inline key) ms t = where_some (λ es. where_some (is_no_member ms) (value_at key es)) (members_in t)
union_member form ms t = false
