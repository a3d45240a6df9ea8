-- A step over every store, by the answer to its edit.
use Rattle.std.proofs.Common.{◌≡◌, ◌⊎◌, inl, inr, ℕ, ◌<◌, ◌^◌, List, Option, Some, None, Result, Ok, Err, refl, sym, ap, ◌∙◌, subst}
use Rattle.std.specs.Prelude.{IfSome}
use Rattle.ild_cbor.specs.declared.why.BlockWhy.{BlockWhy}
use Rattle.ild_data.specs.Spell.{id_of}
use Rattle.ild_data.specs.declared.id.BlockId.{BlockId}
use Rattle.ild_edges.proofs.Later.{Later-refl, Later-trans}
use Rattle.ild_edges.specs.Store.{Moment, Later}
use Rattle.ild_generator.specs.Generated.{obeyed, asked_map, blocks_in}
use Rattle.ild_generator.specs.Laws.{StepsAreEdits, StepsAddBlocks}
use Rattle.ild_generator.specs.Numbers.{is_deletion}
use Rattle.ild_run_edit.specs.Edits.{edit_of, reply_of}
use Rattle.ild_run_edit.specs.Naming.{IsTaken, NamesClash}
use Rattle.ild_open.specs.Broken.{IsRefused}
use Rattle.ild_run_generate.specs.inside.Counting.{Lacks, RefusesBlock}
use Rattle.ild_run_generate.specs.Steps.{TellsBlock, IsAsked, TakesStep, one_more, one_absent, outcome_of}
use Rattle.ild_run_generate.specs.declared.asking.Asked.{Asked}
use Rattle.ild_run_generate.specs.declared.fault.GenerateFault.{GenerateFault}
use Rattle.ild_run_generate.specs.declared.fault.GenerateFault.TheVariants as F
use Rattle.ild_run_generate.specs.declared.stepping.Outcome.TheVariants as O
use Rattle.ild_run_generate.specs.declared.summary.Counts.{Counts}
use Rattle.ild_run_generate.proofs.Added.{rose_later, adds_same}
use Rattle.ild_run_generate.proofs.Taking.{ComesTo}
use Rattle.ild_run_generate.proofs.Told.{step_adds, step_done, step_absent, step_left, step_clash, no_block}
use Rattle.ild_run_standing.specs.Answers.{AnswersAs}
use Rattle.ild_run_standing.specs.Blame.{IsBroken}
use Rattle.ild_schema.specs.declared.number.TypeNo.{TypeNo}
use Rattle.ild_schema.specs.declared.row.Row.{Row}
use Rattle.ild_script.specs.declared.reply.No.{No}
use Rattle.ild_script.specs.declared.reply.No.TheVariants as N
use Rattle.ild_script.specs.declared.reply.Reply.{Reply}
use Rattle.ild_script.specs.declared.reply.Reply.TheVariants as R
use Rattle.ild_script_meaning.specs.Ask.{to_edit}
use Rattle.ild_view_doc.specs.Docs.{table_in, type_in, block_in}
use Rattle.ild_view_doc.specs.declared.doc.Doc.{Doc}

-- the refusal that an outcome tells
store_by : (y : No) → outcome_of y ≡ O.Store → y ≡ N.Store
store_by N.Store is = refl
store_by N.Path is = absurd cc
store_by N.Line is = absurd cc
store_by N.Json is = absurd cc
store_by N.Mismatch is = absurd cc
store_by N.Delimiter is = absurd cc
store_by N.Hole is = absurd cc
store_by N.Depth is = absurd cc
store_by N.Exhausted is = absurd cc
store_by N.Size is = absurd cc
store_by N.Reserved is = absurd cc
store_by N.Block is = absurd cc
store_by N.Clash is = absurd cc
store_by N.Memory is = absurd cc
store_by N.Batch is = absurd cc

block_by : (y : No) → outcome_of y ≡ O.Block → y ≡ N.Block
block_by N.Block is = refl
block_by N.Path is = absurd cc
block_by N.Line is = absurd cc
block_by N.Json is = absurd cc
block_by N.Mismatch is = absurd cc
block_by N.Delimiter is = absurd cc
block_by N.Hole is = absurd cc
block_by N.Depth is = absurd cc
block_by N.Exhausted is = absurd cc
block_by N.Size is = absurd cc
block_by N.Reserved is = absurd cc
block_by N.Store is = absurd cc
block_by N.Clash is = absurd cc
block_by N.Memory is = absurd cc
block_by N.Batch is = absurd cc

pub clash_is : (y : No) → outcome_of y ≡ O.Clash → y ≡ N.Clash
clash_is N.Clash is = refl
clash_is N.Path is = absurd cc
clash_is N.Line is = absurd cc
clash_is N.Json is = absurd cc
clash_is N.Mismatch is = absurd cc
clash_is N.Delimiter is = absurd cc
clash_is N.Hole is = absurd cc
clash_is N.Depth is = absurd cc
clash_is N.Exhausted is = absurd cc
clash_is N.Size is = absurd cc
clash_is N.Reserved is = absurd cc
clash_is N.Block is = absurd cc
clash_is N.Store is = absurd cc
clash_is N.Memory is = absurd cc
clash_is N.Batch is = absurd cc

same_clash : (i j : BlockId) → ◌≡◌ {A = Result Counts GenerateFault} (Err (F.Clash i)) (Err (F.Clash j)) → i.0 ≡ j.0
same_clash i j e = cc

-- where memory is wanting for the edit
pub takes_nothing : (d : Doc) (x i : ℕ) (c : Counts) (m : Moment) → TakesStep d d x i c m (Err F.Memory) m
takes_nothing d x i c m = record {
  later = Later-refl m;
  table = refl;
  type = refl;
  failed = λ e. absurd cc;
  clashed = λ id e. absurd cc;
  blamed = λ id why e. absurd cc;
  told = λ tests s are of plain same counts held. record { answer = tt; adds = adds_same m (blocks_in (asked_map i s)) };
}

module _ (edits : StepsAreEdits) (blocks : StepsAddBlocks) (old new : Doc) (x i : ℕ) (low : i < 2 ^ 64) (a : Asked) (asked : IsAsked x i a) (m n : Moment) (answer : Result (Unit {0}) No)
    (answers : AnswersAs id_of old new (to_edit (edit_of a.verb a.path a.json)) m (Some (reply_of answer new)) n) (c : Counts) where
  pub takes_done : answer ≡ Ok tt → TakesStep old new x i c m (Ok (one_more (is_deletion x) c)) n
  takes_done is = record {
    later = answers.later;
    table = answers.table;
    type = answers.type;
    failed = λ e. absurd cc;
    clashed = λ id e. absurd cc;
    blamed = λ id why e. absurd cc;
    told = λ tests s are of plain same counts held. record {
      answer = subst (λ (o : Counts). ComesTo tests s i n new (one_more (is_deletion x) o) (obeyed i s)) counts (step_done edits blocks old new x i low a asked m n answer answers tests s are of plain same held is);
      adds = step_adds edits blocks old new x i low a asked m n answer answers tests s are of plain same held;
    };
  }

  module _ (refusal : No) (refused : answer ≡ Err refusal) where
    pub takes_absent : outcome_of refusal ≡ O.Absent → TakesStep old new x i c m (Ok (one_absent (is_deletion x) c)) n
    takes_absent is = record {
      later = answers.later;
      table = answers.table;
      type = answers.type;
      failed = λ e. absurd cc;
      clashed = λ id e. absurd cc;
      blamed = λ id why e. absurd cc;
      told = λ tests s are of plain same counts held. record {
        answer = subst (λ (o : Counts). ComesTo tests s i n new (one_absent (is_deletion x) o) (obeyed i s)) counts (step_absent edits blocks old new x i low a asked m n answer answers tests s are of plain same held refusal refused is);
        adds = step_adds edits blocks old new x i low a asked m n answer answers tests s are of plain same held;
      };
    }

    pub takes_left : outcome_of refusal ≡ O.Left → TakesStep old new x i c m (Ok c) n
    takes_left is = record {
      later = answers.later;
      table = answers.table;
      type = answers.type;
      failed = λ e. absurd cc;
      clashed = λ id e. absurd cc;
      blamed = λ id why e. absurd cc;
      told = λ tests s are of plain same counts held. record {
        answer = subst (λ (o : Counts). ComesTo tests s i n new o (obeyed i s)) counts (step_left edits blocks old new x i low a asked m n answer answers tests s are of plain same held refusal refused is);
        adds = step_adds edits blocks old new x i low a asked m n answer answers tests s are of plain same held;
      };
    }

    pub takes_store : outcome_of refusal ≡ O.Store → TakesStep old new x i c m (Err F.Store) n
    takes_store is = record {
      later = answers.later;
      table = answers.table;
      type = answers.type;
      failed = λ e. answers.failed (ap (λ (r : Result (Unit {0}) No). Some (reply_of r new)) refused ∙ ap (λ y. Some (R.No y)) (store_by refusal is));
      clashed = λ id e. absurd cc;
      blamed = λ id why e. absurd cc;
      told = λ tests s are of plain same counts held. record { answer = tt; adds = step_adds edits blocks old new x i low a asked m n answer answers tests s are of plain same held };
    }

    pub takes_memory : TakesStep old new x i c m (Err F.Memory) n
    takes_memory = record {
      later = answers.later;
      table = answers.table;
      type = answers.type;
      failed = λ e. absurd cc;
      clashed = λ id e. absurd cc;
      blamed = λ id why e. absurd cc;
      told = λ tests s are of plain same counts held. record { answer = tt; adds = step_adds edits blocks old new x i low a asked m n answer answers tests s are of plain same held };
    }

    pub takes_clash : outcome_of refusal ≡ O.Clash → (id : BlockId) → NamesClash (Some id) n → TakesStep old new x i c m (Err (F.Clash id)) n
    takes_clash is id named = record {
      later = answers.later;
      table = answers.table;
      type = answers.type;
      failed = λ e. absurd cc;
      clashed = λ other e. subst (λ (i : List ℕ). IsTaken n i) (same_clash id other e) named;
      blamed = λ other why e. absurd cc;
      told = λ tests s are of plain same counts held. record {
        answer = step_clash edits blocks old new x i low a asked m n answer answers tests s are of plain same held refusal refused (clash_is refusal is);
        adds = step_adds edits blocks old new x i low a asked m n answer answers tests s are of plain same held;
      };
    }

    replied : ◌≡◌ {A = Option Reply} (Some (reply_of answer new)) (Some (R.No refusal))
    replied = ap (λ (r : Result (Unit {0}) No). Some (reply_of r new)) refused

    -- a block is told of the document, since it was refused where the root was opened, or since the edit met one
    blames : (id : List ℕ) (why : BlockWhy) (k : Moment) → Later n k → IsBroken id_of old m.blocks m.lacks n.lacks → block_in new ≡ block_in old → RefusesBlock new n id why k ⊎ (id ≡ id_of (block_in new)) → TellsBlock (table_in old) (type_in old) m k id why
    blames id why k later broken same (inl x) = record {
      doc = old;
      table = refl;
      type = refl;
      from = n;
      to = k;
      after = answers.later;
      before = Later-refl k;
      cause = inl (subst (λ (r : List Row). IsRefused id_of r n.blocks n.lacks k.lacks (type_in old) (id_of (block_in old)) id why) answers.table
          (subst (λ (t : TypeNo). IsRefused id_of (table_in new) n.blocks n.lacks k.lacks t (id_of (block_in old)) id why) answers.type
          (subst (λ (b : List ℕ). IsRefused id_of (table_in new) n.blocks n.lacks k.lacks (type_in new) (id_of b) id why) same x)));
    }
    blames id why k later broken same (inr is) = record { doc = old; table = refl; type = refl; from = m; to = n; after = Later-refl m; before = later; cause = inr (is ∙ ap id_of same, broken) }

    pub takes_lacking : outcome_of refusal ≡ O.Block → (f : GenerateFault) (k : Moment) → Lacks new n f k → TakesStep old new x i c m (Err f) k
    takes_lacking is f k lacks = record {
      later = Later-trans m n k answers.later lacks.reads.later;
      table = answers.table;
      type = answers.type;
      failed = λ e. rose_later m n k answers.later (lacks.failed (let g = e in cc));
      clashed = λ id e. absurd (lacks.unclashed id (let g = e in cc));
      blamed = λ id why e. blames id.0 why k lacks.reads.later (answers.blamed (replied ∙ ap (λ y. Some (R.No y)) (block_by refusal is))) (answers.kept refusal replied) (lacks.refused id why (let g = e in cc));
      told = λ tests s are of plain same counts held. absurd (no_block edits blocks old new x i low a asked m n answer answers tests s are of plain same held refusal refused is);
    }

    clash_by : outcome_of refusal ≡ O.Clash → (clash : Option BlockId) → NamesClash clash n → (f : GenerateFault) → IfSome clash (λ id. f ≡ F.Clash id) → TakesStep old new x i c m (Err f) n
    clash_by is None named f same = absurd named
    clash_by is (Some id) named f same = subst (λ (y : GenerateFault). TakesStep old new x i c m (Err y) n) (sym same) (takes_clash is id named)

    pub takes_clash_of : outcome_of refusal ≡ O.Clash → (clash : Option BlockId) → (answer ≡ Err N.Clash → NamesClash clash n) → (f : GenerateFault) → IfSome clash (λ id. f ≡ F.Clash id) → TakesStep old new x i c m (Err f) n
    takes_clash_of is clash named f same = clash_by is clash (named (refused ∙ ap (λ (y : No). Err y) (clash_is refusal is))) f same
