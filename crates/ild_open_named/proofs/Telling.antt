-- A root is described by two blocks, or there is none that is.
use Rattle.std.proofs.Common.{◌≡◌, ℕ, List, Some, IsUtf8, sym, ◌∙◌, ap, subst, arith, inl, inr}
use Rattle.std.specs.Prelude.{Ok, Err}
use Rattle.ild_cbor.specs.Block.{IsBlockOf}
use Rattle.ild_cbor.specs.declared.why.BlockWhy.{BlockWhy}
use Rattle.ild_data.specs.Bytes.{AreBytes}
use Rattle.ild_data.specs.Data.{Data, text}
use Rattle.ild_data.specs.Spell.{id_of}
use Rattle.ild_edges.proofs.Reading.{from_both, from_later, from_one, reads_then}
use Rattle.ild_edges.specs.Gained.{OnlyReads}
use Rattle.ild_edges.specs.Store.{Gets, Moment, block_at}
use Rattle.ild_named.specs.Named.{named_data, schema_block}
use Rattle.ild_open_parts.proofs.Breaking.{rose_later}
use Rattle.ild_open_parts.specs.declared.fault.OpenFault.{OpenFault}
use Rattle.ild_open_parts.specs.declared.fault.OpenFault.TheVariants as F
use Rattle.ild_view_named.specs.NamedBlock.{IsNamedBlock}
use Rattle.ild_view_named.specs.NamedDocs.{IsMisnamedBlock}
use Rattle.ild_open_named.specs.Broken.{IsNoText, IsUndescribed, IsWrongSchema, IsWrongUnder}
use Rattle.ild_open_named.specs.Described.{DescribeAnswer, Describes, HoldsData, IsDescribed, NoneDescribed}
use Rattle.ild_open_named.specs.declared.described.Described.{Described}
use Rattle.ild_open_named.specs.inside.Found.{Finds, FindsText, GetsBlock}
use Rattle.ild_open_named.proofs.Finding.{under_of}
use Rattle.ild_open_named.proofs.Refusing.{not_undescribed, wrong_earlier}

none_where : (id : List ℕ) (m : Moment) (before now : ℕ) (at : List ℕ) (why : BlockWhy) → IsUndescribed m.blocks before now id at why → NoneDescribed id m
none_where id m before now at why x = λ held name source told is. not_undescribed m.blocks held told id name source is before now at why x

-- ---- where it is none

pub root_stops : {A : Type 0} (Done : A → Type 0) (id : List ℕ) (m n : Moment) (e : OpenFault) → Finds Done IsMisnamedBlock id m (Err e) n → Describes id m (Err e) n
root_stops Done id m n e x = record { answer = by e x; only = x.only; gets = let few = x.gets in omega (arith, few) }
  where
    by : (e : OpenFault) → Finds Done IsMisnamedBlock id m (Err e) n → DescribeAnswer id m (Err e) n
    by (F.Block at why) y = let w = inl (y.answer.0, y.answer.1) in (none_where id m m.lacks n.lacks at.0 why w, w)
    by F.Store y = y.answer
    by F.Memory y = tt

-- the schema's block is wrong, from an earlier moment on
pub wrong_schema : (root id : List ℕ) (m k n : Moment) (b name : List ℕ) (t : Data) (at : List ℕ) (why : BlockWhy) → Gets m root (Ok (Some b)) k → OnlyReads m k → IsNamedBlock b name id t → at ≡ id
    → IsWrongUnder IsNoText k.blocks k.lacks n.lacks id why → IsWrongSchema m.blocks m.lacks n.lacks root at why
wrong_schema root id m k n b name t at why got only names same wrong =
    subst (λ (i : List ℕ). IsWrongSchema m.blocks m.lacks n.lacks root i why) (sym same)
    (record {
      linked = record { block = b; at = under_of root b m k got; name = name; tree = t; names = names };
      wrong = wrong_earlier IsNoText m.blocks k.blocks m.lacks k.lacks n.lacks id why only.blocks only.later.lacks wrong;
    })

pub schema_stops : (id : List ℕ) (m k n : Moment) (b name schema : List ℕ) (t : Data) (e : OpenFault) → GetsBlock id m (Ok b) k → IsNamedBlock b name schema t → FindsText schema k (Err e) n → Describes id m (Err e) n
schema_stops id m k n b name schema t e got names x = record {
  answer = by e x;
  only = reads_then m k n got.only x.only;
  gets = let first = got.gets in let second = x.gets in omega (arith, first, second);
}
  where
    by : (e : OpenFault) → FindsText schema k (Err e) n → DescribeAnswer id m (Err e) n
    by (F.Block at why) y =
        let w = inr (wrong_schema id schema m k n b name t at.0 why got.answer got.only names y.answer.0 y.answer.1) in (none_where id m m.lacks n.lacks at.0 why w, w)
    by F.Store y = rose_later m.faults k.faults n.faults got.only.later.faults y.answer
    by F.Memory y = tt

pub memory_stops : (id : List ℕ) (m k n : Moment) (b schema c : List ℕ) → GetsBlock id m (Ok b) k → FindsText schema k (Ok c) n → Describes id m (Err F.Memory) n
memory_stops id m k n b schema c got x = record { answer = tt; only = reads_then m k n got.only x.only; gets = let first = got.gets in let second = x.gets in omega (arith, first, second) }

-- ---- where it is one

pub name_is_text : (b name id : List ℕ) (t : Data) → IsNamedBlock b name id t → IsUtf8 name
name_is_text b name id t x = x.block.within.tree.1

-- the schema's block is under the id that the root tells
pub linked_is : (id c source : List ℕ) (k n : Moment) → Gets k id (Ok (Some c)) n → IsBlockOf c (text source) → id ≡ id_of (schema_block source)
linked_is id c source k n got block = sym got.answer.0 ∙ ap id_of block.spelled

both_described : (held : List (List ℕ)) (id b name schema c source : List ℕ) (t : Data) → IsNamedBlock b name schema t → IsBlockOf c (text source) → schema ≡ id_of (schema_block source) → block_at held id ≡ Some b
    → block_at held schema ≡ Some c → IsDescribed held id name source
both_described held id b name schema c source t names block link here there = record {
  tree = t;
  root = subst (λ (i : List ℕ). HoldsData held id (named_data name i t)) link (record { within = names.block.within; there = here ∙ ap Some names.block.spelled });
  schema = subst (λ (i : List ℕ). HoldsData held i (text source)) link (record { within = block.within; there = there ∙ ap Some block.spelled });
}

pub has_description : (id : List ℕ) (m k n : Moment) (b c : List ℕ) (t : Data) (d : Described) (source : List ℕ) → GetsBlock id m (Ok b) k → AreBytes b → IsNamedBlock b d.type_name d.schema.0 t → FindsText d.schema.0 k (Ok c) n
    → AreBytes c → IsBlockOf c (text source) → d.source ≡ source → Describes id m (Ok d) n
has_description id m k n b c t d source got bytes names x more block same =
    let own : IsBlockOf c (text d.source) = subst (λ (s : List ℕ). IsBlockOf c (text s)) (sym same) block in
    let link : d.schema.0 ≡ id_of (schema_block d.source) = linked_is d.schema.0 c d.source k n x.answer.get own in
    record {
      answer = record {
        link = link;
        name_text = name_is_text b d.type_name d.schema.0 t names;
        source_text = own.within.tree;
        described = from_both n (λ held. block_at held id ≡ Some b) (λ held. block_at held d.schema.0 ≡ Some c) (λ held. IsDescribed held id d.type_name d.source)
            (λ held here there. both_described held id b d.type_name d.schema.0 c d.source t names own link here there)
            (from_later k n (λ held. block_at held id ≡ Some b) x.only (from_one m k id b bytes got.answer)) (from_one k n d.schema.0 c more x.answer.get);
      };
      only = reads_then m k n got.only x.only;
      gets = let first = got.gets in let second = x.gets in omega (arith, first, second);
    }
