-- What opening the document from which a script starts says of its root.
use Rattle.std.proofs.Common.{◌≡◌, ℕ, List, Some, Ok, Err, sym, ◌∙◌, subst}
use Rattle.std.specs.Prelude.{is_some, IsTrue}
use Rattle.std.proofs.lemmas.Option.{same_Some}
use Rattle.ild_data.specs.Spell.{id_of}
use Rattle.ild_data.specs.declared.id.BlockId.{BlockId}
use Rattle.ild_edges.specs.Store.{Moment}
use Rattle.ild_heads.specs.Work.{IsValue}
use Rattle.ild_run_open.specs.Starts.{HasFirst, Starts}
use Rattle.ild_run_open.specs.declared.start.StartFault.{StartFault}
use Rattle.ild_run_open.specs.declared.start.Start.TheVariants as S
use Rattle.ild_schema.specs.Value.{Value}
use Rattle.ild_script.specs.declared.reply.No.{No}
use Rattle.ild_view_doc.specs.Docs.{block_in}
use Rattle.ild_view_doc.specs.declared.doc.Doc.{Doc}
use Rattle.ild_run_work.specs.Roots.{IsEmptyRoot, RefusesRoot, refusal_of, start_of}
use Rattle.ild_run_work.specs.Rules.{Rules, StandsIn, StandsAmong}
use Rattle.ild_run_work.specs.Standing.{some_told}

module _ (rules : Rules) (m n : Moment) where
  empty_first : (d : Doc) → Starts id_of rules.rows rules.ty S.Empty m (Ok d) n → (held : List (List ℕ)) → n.blocks ≡ Some held → HasFirst id_of rules.rows rules.ty S.Empty (block_in d) held
  empty_first d x held told = x.answer.first held told

  pub empty_root : (d : Doc) (root : List ℕ) → root ≡ id_of (block_in d) → Starts id_of rules.rows rules.ty S.Empty m (Ok d) n → IsEmptyRoot rules n root
  empty_root d root is x = record {
    there = λ held told. let f = empty_first d x held told in
        (f.value, subst (λ (i : List ℕ). StandsAmong rules held i f.value) (sym is) f.is.stands, f.from);
  }

  -- what stands among the blocks that the store tells stands in it
  stands_in : (held : List (List ℕ)) → n.blocks ≡ Some held → (root : List ℕ) (v : Value) → StandsAmong rules held root v → StandsIn rules n root v
  stands_in held told root v st = record { there = λ now is. subst (λ (z : List (List ℕ)). StandsAmong rules z root v) (same_Some held now (sym told ∙ is)) st }

  pub empty_value : (root : List ℕ) → IsEmptyRoot rules n root → IsTrue (is_some n.blocks) → IsValue (StandsIn rules n) root
  empty_value root x told = let held = some_told n.blocks told in let v = x.there held.0 held.1 in (v.0, stands_in held.0 held.1 root v.0 v.1)

  pub root_value : (d : Doc) (id : BlockId) → Starts id_of rules.rows rules.ty (S.Root id) m (Ok d) n → IsTrue (is_some n.blocks) → IsValue (StandsIn rules n) id.0
  root_value d id x told =
      let held = some_told n.blocks told in
      let f : HasFirst id_of rules.rows rules.ty (S.Root id) (block_in d) held.0 = x.answer.first held.0 held.1 in
      (f.value, stands_in held.0 held.1 id.0 f.value (subst (λ (i : List ℕ). StandsAmong rules held.0 i f.value) f.from f.is.stands))

  pub root_refused : (root : _) (fault : StartFault) (refusal : No) → refusal ≡ refusal_of fault → Starts id_of rules.rows rules.ty (start_of root) m (Err fault) n → RefusesRoot rules root m refusal n
  root_refused root fault refusal is x = record { fault = fault; named = is; stops = x.answer }
