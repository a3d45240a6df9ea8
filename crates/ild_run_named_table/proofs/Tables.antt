-- From what a root tells to its table, step by step.
use Rattle.std.proofs.Common.{◌≡◌, ℕ, ◌≤◌, List, length, Some, sym, ◌∙◌, subst, inl, inr}
use Rattle.std.proofs.lemmas.Option.{none-some}
use Rattle.std.specs.Prelude.{Ok, Err}
use Rattle.ild_compile.specs.Compile.{HasAccepted}
use Rattle.ild_edges.proofs.Reading.{from_told}
use Rattle.ild_edges.specs.Store.{Moment}
use Rattle.ild_open_named.specs.Described.{Describes, IsDescribed}
use Rattle.ild_open_named.specs.declared.described.Described.{Described}
use Rattle.ild_open_parts.specs.declared.fault.OpenFault.{OpenFault}
use Rattle.ild_open_parts.specs.declared.fault.OpenFault.TheVariants as F
use Rattle.ild_resolve.proofs.Limits.{no_faults}
use Rattle.ild_resolve.proofs.Tables.{rows_few}
use Rattle.ild_resolve.specs.Events.{events_of}
use Rattle.ild_run_named.proofs.Told.{not_flawed, one_described, one_table}
use Rattle.ild_run_named.specs.Types.{TypesAs}
use Rattle.ild_schema.specs.Names.{number_named}
use Rattle.ild_schema.specs.declared.row.Row.{Row}
use Rattle.ild_run_named_table.specs.NamedTable.{NamesTable, TableAnswer}

-- a table that a text derives has room for a row more
pub few_rows : (source : List ℕ) (rows : List Row) → HasAccepted source rows → length rows ≤ 65543
few_rows source rows h = subst (λ (r : List Row). length r ≤ 65543) (sym h.table.resolves.2) (rows_few h.table.ast (no_faults (events_of h.table.ast) h.table.resolves.0).0)

module _ (id : List ℕ) (m k : Moment) where
  -- ---- no root is described

  describe_stops : (e : OpenFault) → Describes id m (Err e) k → TableAnswer id m (Err e) k
  describe_stops (F.Block at why) x = record { none = λ held name source rows ty told is describes. x.answer.0 held name source told is; refused = inl x.answer.1 }
  describe_stops F.Store x = x.answer
  describe_stops F.Memory x = tt

  pub not_described : (e : OpenFault) → Describes id m (Err e) k → NamesTable id m (Err e) k
  not_described e x = record { answer = describe_stops e x; reads = x.only; gets = x.gets }

  module _ (d : Described) (x : Describes id m (Ok d) k) where
    told_here : (held : List (List ℕ)) → m.blocks ≡ Some held → IsDescribed held id d.type_name d.source
    told_here held told = from_told k (λ held. IsDescribed held id d.type_name d.source) x.answer.described held (x.only.blocks ∙ told)

    -- ---- no type

    type_stops : (e : OpenFault) → TypesAs id d (Err e) → TableAnswer id m (Err e) k
    type_stops (F.Block at why) (inl y) = record {
      none = λ held name source rows ty told is describes.
          let same = (one_described held id name source d.type_name d.source is (told_here held told)).sources in
          not_flawed d.source rows y.fault (subst (λ (s : List ℕ). HasAccepted s rows) same describes.schema) y.flaw;
      refused = inr (inl (record { name = d.type_name; source = d.source; tells = x.answer.described; schema = y.schema ∙ x.answer.link; fault = y.fault; flaw = y.flaw; told = y.told }));
    }
    type_stops (F.Block at why) (inr y) = record {
      none = λ held name source rows ty told is describes.
          let one = one_described held id name source d.type_name d.source is (told_here held told) in
          let same : rows ≡ y.rows = one_table d.source rows y.rows (subst (λ (s : List ℕ). HasAccepted s rows) one.sources describes.schema) y.accepted in
          let found : number_named d.type_name y.rows ≡ Some ty.0
          = subst (λ (r : List Row). number_named d.type_name r ≡ Some ty.0) same (subst (λ (s : List ℕ). number_named s rows ≡ Some ty.0) one.names describes.type) in
          none-some ty.0 (sym y.none ∙ found);
      refused = inr (inr (record { name = d.type_name; source = d.source; tells = x.answer.described; root = y.root; rows = y.rows; accepted = y.accepted; none = y.none; told = y.told }));
    }
    type_stops F.Memory y = tt
    type_stops F.Store y = absurd y

    pub not_typed : (e : OpenFault) → TypesAs id d (Err e) → NamesTable id m (Err e) k
    not_typed e y = record { answer = type_stops e y; reads = x.only; gets = x.gets }
