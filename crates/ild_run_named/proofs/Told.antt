-- What a root tells is one name and one text, which describe one type.
use Rattle.std.proofs.Common.{◌≡◌, ℕ, List, sym, ◌∙◌, subst}
use Rattle.std.proofs.lemmas.Option.{same_Some}
use Rattle.ild_compile.proofs.OneVerdict.{one_verdict_lem}
use Rattle.ild_compile.specs.Compile.{HasAccepted, IsFlaw, faulty, table}
use Rattle.ild_compile.specs.declared.error.SchemaFault.{SchemaFault}
use Rattle.ild_data.specs.Data.{Data, text}
use Rattle.ild_data.specs.Spell.{id_of, spell}
use Rattle.ild_named.proofs.Framing.{name_of_named, schema_of_named}
use Rattle.ild_named.specs.Named.{named_data, schema_block}
use Rattle.ild_open_named.proofs.Naming.{standing_described}
use Rattle.ild_open_named.specs.Described.{HoldsData, IsDescribed}
use Rattle.ild_schema.specs.Value.{Value}
use Rattle.ild_schema.specs.declared.number.TypeNo.{TypeNo}
use Rattle.ild_schema.specs.declared.row.Row.{Row}
use Rattle.ild_typed.proofs.Wholes.{one_within}
use Rattle.ild_typed.specs.Schema.{IsSchema}
use Rattle.ild_run_named.specs.Describes.{StandsDescribed}

-- data that are held under one id are one
one_held : (held : List (List ℕ)) (id : List ℕ) (t u : Data) → HoldsData held id t → HoldsData held id u → t ≡ u
one_held held id t u a b = one_within t u a.within b.within.tree (same_Some (spell t) (spell u) (sym a.there ∙ b.there))

pub record AreTold (name source other behind : List ℕ) : Type 0 where
  pub names : name ≡ other
  pub sources : source ≡ behind

text_of_text : (s k : List ℕ) → text s ≡ text k → s ≡ k
text_of_text s k same = cc

pub one_described : (held : List (List ℕ)) (id name source other behind : List ℕ) → IsDescribed held id name source → IsDescribed held id other behind → AreTold name source other behind
one_described held id name source other behind a b =
    let link : List ℕ = id_of (schema_block source) in
    let other_link : List ℕ = id_of (schema_block behind) in
    let same : named_data name link a.tree ≡ named_data other other_link b.tree
    = one_held held id (named_data name link a.tree) (named_data other other_link b.tree) a.root b.root in
    let links : link ≡ other_link = schema_of_named name link other other_link a.tree b.tree same in
    record {
      names = name_of_named name link other other_link a.tree b.tree same;
      sources = text_of_text source behind
          (one_held held other_link (text source) (text behind) (subst (λ (i : List ℕ). HoldsData held i (text source)) links a.schema) b.schema);
    }

-- ---- one verdict on a text

fault_no_table : (rows : List Row) (f : SchemaFault) → table rows ≡ faulty f → ⊥
fault_no_table rows f same = absurd cc

pub not_flawed : (source : List ℕ) (rows : List Row) (f : SchemaFault) → HasAccepted source rows → IsFlaw source f.flaw f.at → ⊥
not_flawed source rows f a b = fault_no_table rows f (one_verdict_lem source (table rows) (faulty f) a b)

rows_of_table : (rows other : List Row) → table rows ≡ table other → rows ≡ other
rows_of_table rows other same = cc

pub one_table : (source : List ℕ) (rows other : List Row) → HasAccepted source rows → HasAccepted source other → rows ≡ other
one_table source rows other a b = rows_of_table rows other (one_verdict_lem source (table rows) (table other) a b)

pub number_is : (a b : TypeNo) → a.0 ≡ b.0 → a ≡ b
number_is a b same = (λ i. record { 0 = same i })

-- ---- a value that stands

module _ (h : List ℕ → List ℕ) (id : List ℕ) (held : List (List ℕ)) (rows : List Row) (ty : TypeNo) (v : Value) (st : StandsDescribed h id held rows ty v) where
  pub is_schema : IsSchema rows
  is_schema = record { table = st.describes.table; accepted = st.describes.schema.accepted }

  pub tells : IsDescribed held id st.name st.source
  tells = standing_described rows is_schema h ty id held st.name st.source v st.is

  -- what the root tells otherwise is the same
  pub accepted_too : (name source : List ℕ) → IsDescribed held id name source → HasAccepted source rows
  accepted_too name source is = subst (λ (s : List ℕ). HasAccepted s rows) (one_described held id st.name st.source name source tells is).sources st.describes.schema
