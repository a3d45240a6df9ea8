-- What stands around the parts of a value (IPLD Schemas, "Representation Strategies"; DAG-CBOR, "Map Keys").
use Rattle.std.specs.Prelude.{◌≡◌, ℕ, ◌<◌, true, false, cond, not, List, [], ◌++◌, length, take, drop, get_or, Some}
use Rattle.std.specs.List.{AllByRecursion}
use Rattle.ild_bulk.specs.Keyed.{entry_front}
use Rattle.ild_data.specs.Key.{key_less}
use Rattle.ild_data.specs.Spell.{head, spell_bytes, spell_text}
use Rattle.ild_build_entries.specs.declared.hamt.MarkedEntries.{MarkedEntries}
use Rattle.ild_build_leaf.specs.Kept.{is_before}
use Rattle.ild_data.specs.Hex.{bytes_of_hex}
use Rattle.ild_schema.specs.Indexed.{InKeyOrder}
use Rattle.ild_schema.specs.declared.def.Field.{Field}
use Rattle.ild_schema.specs.declared.def.UnionForm.{UnionForm}
use Rattle.ild_schema.specs.declared.def.UnionForm.TheVariants as UF
use Rattle.ild_build_pass.specs.inside.Places.{texts_of}

-- ---- unions

-- a discriminant: its key, and its text
abbrev pub tag_spelled : List ℕ → List ℕ → List ℕ
tag_spelled key name = spell_text key ++ spell_text name

-- before the content of an envelope: the discriminant too, where its key comes first
abbrev pub envelope_front : List ℕ → List ℕ → List ℕ → List ℕ
envelope_front key content name = head 5 2 ++ (cond (key_less key content) (tag_spelled key name) [] ++ spell_text content)

-- before a member whose mark has this text
abbrev pub member_front : UnionForm → List ℕ → List ℕ
member_front UF.Keyed name = head 5 1 ++ spell_text name
member_front (UF.Envelope key content) name = envelope_front key content name
member_front UF.Kinded name = []
member_front UF.StringPrefix name = []
member_front UF.BytesPrefix name = []
member_front (UF.Inline key) name = []

-- and behind it
abbrev pub member_back : UnionForm → List ℕ → List ℕ
member_back (UF.Envelope key content) name = cond (not (key_less key content)) (tag_spelled key name) []
member_back UF.Keyed name = []
member_back UF.Kinded name = []
member_back UF.StringPrefix name = []
member_back UF.BytesPrefix name = []
member_back (UF.Inline key) name = []

-- a form whose member stands between two such pieces
abbrev pub IsWrapped : UnionForm → Type 0
IsWrapped UF.Keyed = Unit {0}
IsWrapped (UF.Envelope key content) = key ≡ content → ⊥
IsWrapped form = ⊥

-- bytes behind the digits of a prefix, where what stands behind it is spelled so
pub record JoinsPrefix (digits spelled old new : List ℕ) : Type 0 where
  pub bytes : List ℕ
  pub is : new ≡ old ++ spell_bytes bytes
  pub read : (front rest : List ℕ) → bytes_of_hex digits ≡ Some front → spelled ≡ spell_bytes rest → bytes ≡ front ++ rest

-- ---- structs

-- the fields in the key order, before a key and behind it
pub record SplitsAt (fs : List Field) (key before behind : List ℕ) : Type 0 where
  pub count : ℕ
  pub places : List ℕ
  pub order : InKeyOrder (texts_of fs) places
  pub front : before ≡ take count places
  pub back : behind ≡ drop count places
  pub less : AllByRecursion (λ i. is_before fs key i ≡ true) (take count places)
  pub next : count < length places → is_before fs key (get_or places count 0) ≡ false

-- ---- HAMTs

-- an entry was begun: so many bytes stand before it, and so many before its value
pub record BeginsEntry (key : List ℕ) (from value_from : ℕ) (old new : MarkedEntries) : Type 0 where
  pub begins : new.out ≡ old.out ++ entry_front key
  pub marks : new.marks.items ≡ old.marks.items
  pub at : from ≡ length old.out
  pub value_at : value_from ≡ length new.out
