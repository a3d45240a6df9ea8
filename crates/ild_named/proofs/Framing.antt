-- A root that names its schema is a frame.
use Rattle.std.proofs.Common.{◌≡◌, ℕ, ◌+◌, codes, List, [], ◌∷◌, IsUtf8, refl, arith}
use Rattle.std.proofs.Math.Utf8.{encode}
use Rattle.ild_data.specs.Data as T
use Rattle.ild_data.specs.Data.{Data}
use Rattle.ild_data.specs.Limits.{deepest}
use Rattle.ild_data.specs.Spell.{id_of, cid_of}
use Rattle.ild_typed.specs.Nested.{IsBlock, TreeIn}
use Rattle.ild_typed.proofs.Treed.{in_more, map_in}
use Rattle.ild_typed.proofs.Utf8Texts.{id_fits}
use Rattle.ild_named.specs.Named.{AreNaming, NamedAreFrames, named_data, schema_block}

type_text : IsUtf8 (codes "type")
unfolding encode
type_text = (codes "type", (refl, refl))

value_text : IsUtf8 (codes "value")
unfolding encode
value_text = (codes "value", (refl, refl))

schema_text : IsUtf8 (codes "schema")
unfolding encode
schema_text = (codes "schema", (refl, refl))

-- the map is a tree over a tree, one level deeper
named_in : (name source : List ℕ) (d : Data) → IsUtf8 name → TreeIn 95 d → TreeIn deepest (named_data name (id_of (schema_block source)) d)
named_in name source d text x =
    let id : List ℕ = id_of (schema_block source) in
    in_more (95 + 1) deepest (named_data name id d) (omega arith)
    (map_in 95 ((codes "type", T.text name) ∷ (codes "value", d) ∷ (codes "schema", T.link (cid_of id)) ∷ []) (
      (type_text, record { tree = text; nested = omega arith }),
      ((value_text, x), ((schema_text, record { tree = id_fits (schema_block source); nested = omega arith }), tt)),
    )
    (refl, (refl, (tt, tt))))

-- what stands in the map is told by it
pub name_of_named : (name id other key : List ℕ) (c d : Data) → named_data name id c ≡ named_data other key d → name ≡ other
name_of_named name id other key c d same = cc

pub schema_of_named : (name id other key : List ℕ) (c d : Data) → named_data name id c ≡ named_data other key d → id ≡ key
schema_of_named name id other key c d same = cc

pub value_of_named : (name id other key : List ℕ) (c d : Data) → named_data name id c ≡ named_data other key d → c ≡ d
value_of_named name id other key c d same = cc

pub source_is_block : (name source : List ℕ) → AreNaming name source → IsBlock (schema_block source)
source_is_block name source texts = record { of = T.text source; is = refl; within = record { tree = texts.source_text; nested = omega arith; sized = texts.short } }

pub named_is_frame : NamedAreFrames
named_is_frame = λ name source texts. record {
  less = omega arith;
  apart = λ c d same. value_of_named name (id_of (schema_block source)) name (id_of (schema_block source)) c d same;
  fits = λ d x. named_in name source d texts.name_text x;
  blocks = (source_is_block name source texts, tt);
}
