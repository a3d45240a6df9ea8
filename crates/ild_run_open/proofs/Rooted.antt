-- The document of the value that stands under a root.
use Rattle.std.proofs.Common.{ℕ, List, Ok, sym, subst}
use Rattle.ild_data.specs.declared.id.BlockId.{BlockId}
use Rattle.ild_edges.proofs.Reading.{from_told}
use Rattle.ild_edges.specs.Store.{Moment}
use Rattle.ild_schema.specs.Value.{Value}
use Rattle.ild_schema.specs.declared.number.TypeNo.{TypeNo}
use Rattle.ild_schema.specs.declared.row.Row.{Row}
use Rattle.ild_open.specs.Opened.{HasOpened, Opens, StandsInBlock}
use Rattle.ild_view_doc.specs.Docs.{block_in}
use Rattle.ild_view_doc.specs.declared.doc.Doc.{Doc}
use Rattle.ild_run_open.specs.Starts.{Starts}
use Rattle.ild_run_open.specs.declared.start.Start.TheVariants as S

pub starts : (h : List ℕ → List ℕ) (rows : List Row) (ty : TypeNo) (root : BlockId) (m n : Moment) (d : Doc) → Opens (HasOpened h rows ty root.0 n) h rows ty root.0 m (Ok d) n → Starts h rows ty (S.Root root) m (Ok d) n
starts h rows ty root m n d x = record {
  answer = record {
    table = x.answer.table;
    type = x.answer.type;
    block = x.answer.root;
    first = λ held told.
        let a = from_told n (λ held. (v : Value) × StandsInBlock h rows ty root.0 held (block_in d) v) x.answer.value held told in
        record { value = a.0; is = subst (λ (i : List ℕ). StandsInBlock h rows ty i held (block_in d) a.0) (sym x.answer.root) a.1; from = x.answer.root };
  };
  asks = record { only = x.only; gets = x.gets };
}
