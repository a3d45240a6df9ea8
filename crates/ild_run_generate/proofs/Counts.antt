-- The entries of a document's map, by what stands under its root.
use Rattle.std.proofs.Common.{◌≡◌, ℕ, List, Some, Result, Ok, Err, sym, ap, ◌∙◌, subst}
use Rattle.ild_cbor.specs.declared.why.BlockWhy.{BlockWhy}
use Rattle.ild_data.proofs.Options.{some_there as told_some}
use Rattle.ild_data.specs.Spell.{id_of}
use Rattle.ild_data.specs.declared.id.BlockId.{BlockId}
use Rattle.ild_edges.proofs.Reading.{from_told}
use Rattle.ild_edges.specs.Store.{Moment, block_at}
use Rattle.ild_open.specs.Broken.{IsRefused}
use Rattle.ild_open.specs.Opened.{HasValue, Opens, StandsInBlock}
use Rattle.ild_open_parts.specs.declared.fault.OpenFault.{OpenFault}
use Rattle.ild_open_parts.specs.declared.fault.OpenFault.TheVariants as O
use Rattle.ild_path_edits.specs.Judged.{Tests}
use Rattle.ild_run_generate.specs.inside.Counting.{CountsEntries, RefusesBlock, count_in}
use Rattle.ild_run_generate.specs.declared.fault.GenerateFault.{GenerateFault}
use Rattle.ild_run_generate.specs.declared.fault.GenerateFault.TheVariants as F
use Rattle.ild_run_standing.specs.Laws.{HeldAreStanding}
use Rattle.ild_run_standing.specs.Standing.{IsHeldAt}
use Rattle.ild_schema.specs.Accept.{IsAccepted}
use Rattle.ild_schema.specs.Table.{IsTable}
use Rattle.ild_schema.specs.Value.{Value}
use Rattle.ild_schema.specs.ValueSeen.{value_of}
use Rattle.ild_schema.specs.declared.number.TypeNo.{TypeNo}
use Rattle.ild_schema.specs.declared.row.Row.{Row}
use Rattle.ild_schema.specs.declared.val.Val.{Val}
use Rattle.ild_typed.specs.Schema.{IsSchema}
use Rattle.ild_typed.specs.StandLaws.{OneStands}
use Rattle.ild_typed.specs.Stands.{IsFrame, Stands, bare}
use Rattle.ild_view_doc.specs.Docs.{table_in, type_in, block_in}
use Rattle.ild_view_doc.specs.declared.doc.Doc.{Doc}

module _ (back : HeldAreStanding) (d : Doc) (rows : List Row) (table : rows ≡ table_in d) (ty : TypeNo) (type : ty ≡ type_in d) (id : List ℕ) (root : id ≡ id_of (block_in d)) (m n : Moment) where
  -- the value at which the document stands, as the call sees it
  stood : (tests : Tests) (v : Value) (x : IsHeldAt id_of d tests m v) (held : List (List ℕ)) → m.blocks ≡ Some held → Stands bare (block_at held) id_of rows ty id v
  stood tests v x held told =
      subst (λ (r : List Row). Stands bare (block_at held) id_of r ty id v) (sym table)
      (subst (λ (t : TypeNo). Stands bare (block_at held) id_of (table_in d) t id v) (sym type)
      (subst (λ (j : List ℕ). Stands bare (block_at held) id_of (table_in d) (type_in d) j v) (sym root) (back id_of d tests m held v told x)))

  -- the block is refused of the document's root
  refused : (at : BlockId) (why : BlockWhy) (other : BlockId) (cause : BlockWhy) → ◌≡◌ {A = Result ℕ GenerateFault} (Err (F.Block at why)) (Err (F.Block other cause)) → IsRefused id_of rows m.blocks m.lacks n.lacks ty id at.0 why → RefusesBlock d m other.0 cause n
  refused at why other cause e x =
      let same : at.0 ≡ other.0 = cc in
      let for : why ≡ cause = cc in
      subst (λ (r : List Row). IsRefused id_of r m.blocks m.lacks n.lacks (type_in d) (id_of (block_in d)) other.0 cause) table
      (subst (λ (t : TypeNo). IsRefused id_of rows m.blocks m.lacks n.lacks t (id_of (block_in d)) other.0 cause) type
      (subst (λ (i : List ℕ). IsRefused id_of rows m.blocks m.lacks n.lacks ty i other.0 cause) root
      (subst (λ (w : BlockWhy). IsRefused id_of rows m.blocks m.lacks n.lacks ty id other.0 w) for (subst (λ (i : List ℕ). IsRefused id_of rows m.blocks m.lacks n.lacks ty id i why) same x))))

  pub none_lacks : (f : OpenFault) → Opens (HasValue id_of rows ty id n) id_of rows ty id m (Err f) n → (at : BlockId) (why : BlockWhy) → f ≡ O.Block at why → CountsEntries d m (Err (F.Block at why)) n
  none_lacks f opens at why is =
      let o = subst (λ (g : OpenFault). Opens (HasValue id_of rows ty id n) id_of rows ty id m (Err g) n) is opens in record {
        reads = o.only;
        failed = λ e. absurd cc;
        unclashed = λ clash e. absurd cc;
        refused = λ other cause e. refused at why other cause e (o.answer.1);
        told = λ tests v x. let t = told_some m.blocks x.at.told in (o.answer.0) t.0 v t.1 (stood tests v x t.0 t.1);
      }

pub counts : HeldAreStanding → OneStands → IsFrame bare → (d : Doc) (first : List Row) → first ≡ table_in d → IsTable first → IsAccepted first → (rows : List Row) → rows ≡ table_in d → (ty : TypeNo) → ty ≡ type_in d
    → (id : List ℕ) → id ≡ id_of (block_in d) → (m n : Moment) (opened : Doc × Val) → Opens (HasValue id_of rows ty id n) id_of rows ty id m (Ok opened) n → (count : ℕ) → count ≡ count_in (value_of opened.1) → CountsEntries d m (Ok count) n
counts back one frame d first first_is is_table accepted rows table ty type id root m n opened opens count is =
    let schema : IsSchema rows = subst (λ (r : List Row). IsSchema r) (first_is ∙ sym table) (record { table = is_table; accepted = accepted }) in record {
      reads = opens.only;
      failed = λ e. absurd cc;
      unclashed = λ clash e. absurd cc;
      refused = λ other cause e. absurd cc;
      told = λ tests v x.
          let t = told_some m.blocks x.at.told in
          let same : value_of opened.1 ≡ v =
          one bare frame (block_at t.0) id_of rows schema ty id (value_of opened.1) v (from_told n (λ held. StandsInBlock id_of rows ty id held (block_in opened.0) (value_of opened.1)) opens.answer.value t.0 (opens.only.blocks ∙ t.1)).stands (stood back d rows table ty type id root m n tests v x t.0 t.1) in
          is ∙ ap count_in same;
    }
