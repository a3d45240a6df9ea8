-- The value that stands under a bare root is the one that is given another.
use Rattle.std.proofs.Common.{◌≡◌, ℕ, ◌+◌, ◌≤◌, List, [], ◌∷◌, Option, Some, None, sym, ◌∙◌, subst, arith, inl, inr}
use Rattle.std.proofs.lemmas.Option.{same_Some}
use Rattle.std.specs.Prelude.{Result, Ok, Err, IfErr}
use Rattle.ild_data.specs.Limits.{deepest}
use Rattle.ild_data.specs.Spell.{id_of, spell}
use Rattle.ild_data.specs.declared.id.BlockId.{BlockId}
use Rattle.ild_edges.proofs.Later.{Later-trans}
use Rattle.ild_edges.proofs.Reading.{from_told}
use Rattle.ild_edges.specs.Gained.{AreHeld, CameFrom, FromBlocks, OnlyReads}
use Rattle.ild_edges.specs.Store.{Moment, block_at}
use Rattle.ild_edges.specs.Told.{BothTold, IfTold}
use Rattle.ild_named_root.proofs.Rooting.{none_came, still_in_order}
use Rattle.ild_named_root.specs.Names.{AreDocData, InOrder, Names, NamesData, new_blocks}
use Rattle.ild_named_root.specs.declared.fault.NameFault.{NameFault}
use Rattle.ild_named_root.specs.declared.fault.NameFault.TheVariants as N
use Rattle.ild_open.specs.Opened.{HasOpened, Opens, StandsInBlock}
use Rattle.ild_open_held.proofs.Roots.{standing_are_held}
use Rattle.ild_open_parts.proofs.Breaking.{rose_later}
use Rattle.ild_open_parts.specs.declared.fault.OpenFault.{OpenFault}
use Rattle.ild_open_parts.specs.declared.fault.OpenFault.TheVariants as O
use Rattle.ild_schema.specs.Slots.{plainly}
use Rattle.ild_schema.specs.Value.{Value}
use Rattle.ild_schema.specs.declared.number.TypeNo.{TypeNo}
use Rattle.ild_schema.specs.declared.row.Row.{Row}
use Rattle.ild_typed.proofs.Fronting.{values_fronts}
use Rattle.ild_typed.proofs.TreeValues.{whole_tree}
use Rattle.ild_typed.specs.Schema.{IsSchema}
use Rattle.ild_typed.specs.Stands.{Stands, bare}
use Rattle.ild_view_doc.specs.Docs.{block_in, table_in, type_in}
use Rattle.ild_view_doc.specs.declared.doc.Doc.{Doc}
use Rattle.ild_run_named.specs.Migrates.{MigrateAnswer, Migrates, OfValue, WasOpened}
use Rattle.ild_run_named.specs.declared.migrating.MigrateFault.{MigrateFault}
use Rattle.ild_run_named.specs.inside.Moves.{TellsBytes, migrate_fault, name_fault}

-- a block that is held under its id
held_alone : (o : Option (List (List ℕ))) (kept id : List ℕ) → id_of kept ≡ id → IfTold o (λ held. block_at held id ≡ Some kept) → IfTold o (AreHeld (kept ∷ []))
held_alone None kept id is held = tt
held_alone (Some blocks) kept id is held = (subst (λ (i : List ℕ). block_at blocks i ≡ Some kept) (sym is) held, tt)

abbrev pub answer_of : Result BlockId NameFault → Result BlockId MigrateFault
answer_of (Ok id) = Ok id
answer_of (Err e) = Err (name_fault e)

module _ (rows : List Row) (schema : IsSchema rows) (h : List ℕ → List ℕ) (ty : TypeNo) (root name source : List ℕ) (m k : Moment) where
  -- ---- no value was opened

  few_puts : OnlyReads m k → k.puts ≤ m.puts + 2
  few_puts only = let same = only.puts in omega (arith, same)

  unopened_answer : {A : Type 0} (Done : A → Type 0) (e : OpenFault) → Opens Done h rows ty root m (Err e) k → MigrateAnswer h rows ty root name source m (Err (migrate_fault e)) k
  unopened_answer Done (O.Block id why) x = inl (record { none = x.answer.0; refused = x.answer.1; reads = x.only })
  unopened_answer Done O.Store x = x.answer
  unopened_answer Done O.Memory x = tt

  unopened_value : {A : Type 0} (Done : A → Type 0) (e : OpenFault) → Opens Done h rows ty root m (Err e) k → (held : List (List ℕ)) (v : Value) → m.blocks ≡ Some held → (st : Stands bare (block_at held) h rows ty root v)
      → OfValue h rows ty root name source m held v st (Err (migrate_fault e)) k
  unopened_value Done (O.Block id why) x held v told st = x.answer.0 held v told st
  unopened_value Done O.Store x held v told st = tt
  unopened_value Done O.Memory x held v told st = tt

  pub unopened : {A : Type 0} (Done : A → Type 0) (e : OpenFault) → Opens Done h rows ty root m (Err e) k → Migrates h rows ty root name source m (Err (migrate_fault e)) k
  unopened Done e x = record {
    answer = unopened_answer Done e x;
    value = λ held v told st. record {
      answer = unopened_value Done e x held v told st;
      adds = none_came (new_blocks name source st.tree) m.blocks k.blocks x.only.blocks;
      order = still_in_order name source st.tree m.blocks k.blocks x.only.blocks;
    };
    later = x.only.later;
    puts = few_puts x.only;
  }

  -- ---- one was

  module _ (b : List ℕ) (root_is : id_of b ≡ root) (reads : OnlyReads m k) (opened : FromBlocks k (λ held. (v : Value) × StandsInBlock h rows ty root held b v)) (n : Moment) where
    -- the value that stands is spelled by its block
    is_spelled : (held : List (List ℕ)) (v : Value) → m.blocks ≡ Some held → (st : Stands bare (block_at held) h rows ty root v) → b ≡ spell st.tree
    is_spelled held v told st =
        let w = from_told k (λ held. (v : Value) × StandsInBlock h rows ty root held b v) opened held (reads.blocks ∙ told) in
        let other = (standing_are_held (block_at held) h rows ty root w.0 w.1.stands).there in
        let own = (standing_are_held (block_at held) h rows ty root v st).there in
        w.1.spelled ∙ same_Some (spell w.1.stands.tree) (spell st.tree) (sym other ∙ own)

    in_block : (held : List (List ℕ)) (v : Value) → m.blocks ≡ Some held → Stands bare (block_at held) h rows ty root v → StandsInBlock h rows ty (id_of b) held b v
    in_block held v told st = subst (λ (i : List ℕ). StandsInBlock h rows ty i held b v) (sym root_is) (record { stands = st; spelled = is_spelled held v told st })

    doc_data : (held : List (List ℕ)) (v : Value) → m.blocks ≡ Some held → (st : Stands bare (block_at held) h rows ty root v) → AreDocData rows ty b st.tree
    doc_data held v told st =
        let x = whole_tree h rows schema.table.texts.spelled deepest (plainly ty) v st.tree st.storable.fits st.storable.tree in
        let y = values_fronts h rows schema 96 (plainly ty) v st.tree st.storable.fits st.storable.tree in
        record {
          block = record { within = record { tree = x.tree; nested = x.nested; sized = st.storable.sized.0 }; spelled = is_spelled held v told st };
          front = (y.0, y.1.fits, y.1.tree);
        }

    was_opened : (r : Result BlockId NameFault) → Names h rows ty b name source k r n → WasOpened h rows ty root name source m r n
    was_opened r x = record { moment = k; block = b; root_is = root_is; reads = reads; opened = opened; names = x }

    moved_answer : (r : Result BlockId NameFault) → IfErr r TellsBytes → Names h rows ty b name source k r n → MigrateAnswer h rows ty root name source m (answer_of r) n
    moved_answer (Ok id) bytes x = was_opened (Ok id) x
    moved_answer (Err N.Depth) bytes x = was_opened (Err N.Depth) x
    moved_answer (Err N.Size) bytes x = was_opened (Err N.Size) x
    moved_answer (Err (N.Block id why)) bytes x = inr (was_opened (Err (N.Block id why)) x)
    moved_answer (Err N.Store) bytes x = rose_later m.faults k.faults n.faults reads.later.faults x.failed
    moved_answer (Err (N.Clash id kept new)) bytes x = (kept, new, bytes.0, bytes.1, was_opened (Err (N.Clash id kept new)) x)
    moved_answer (Err N.Memory) bytes x = tt

    moved_value : (r : Result BlockId NameFault) (held : List (List ℕ)) (v : Value) (told : m.blocks ≡ Some held) (st : Stands bare (block_at held) h rows ty root v) → IfErr r TellsBytes
        → NamesData h rows ty b name source st.tree k r n → OfValue h rows ty root name source m held v st (answer_of r) n
    moved_value (Ok id) held v told st bytes x =
        record {
          movable = record { room = x.answer.fit.room held v (reads.blocks ∙ told) (in_block held v told st); short = x.answer.fit.short };
          root_is = x.answer.root;
          stands = x.answer.stands held v (reads.blocks ∙ told) (in_block held v told st);
        }
    moved_value (Err N.Depth) held v told st bytes x = x.answer.none held v (reads.blocks ∙ told) (in_block held v told st)
    moved_value (Err N.Size) held v told st bytes x = (x.answer.room held v (reads.blocks ∙ told) (in_block held v told st), x.answer.long)
    moved_value (Err (N.Block id why)) held v told st bytes x = x.answer.none held v (reads.blocks ∙ told) (in_block held v told st)
    moved_value (Err N.Store) held v told st bytes x = tt
    moved_value (Err (N.Clash id kept new)) held v told st bytes x =
        let clash = x.answer.clash in (
          record { room = x.answer.fit.room held v (reads.blocks ∙ told) (in_block held v told st); short = x.answer.fit.short },
          record {
            kept = kept;
            new = new;
            among = x.answer.among;
            held = held_alone n.blocks kept id.0 clash.0 clash.3;
            collide = record { kept_bytes = bytes.0; new_bytes = bytes.1; differ = clash.2; one_id = clash.0 ∙ sym clash.1 };
            id_is = sym clash.1;
          },
        )
    moved_value (Err N.Memory) held v told st bytes x = tt

    pub moved : (r : Result BlockId NameFault) → IfErr r TellsBytes → Names h rows ty b name source k r n → Migrates h rows ty root name source m (answer_of r) n
    moved r bytes x = record {
      answer = moved_answer r bytes x;
      value = λ held v told st.
          let y = x.each st.tree (doc_data held v told st) in
          record {
            answer = moved_value r held v told st bytes y;
            adds = subst (λ (o : Option (List (List ℕ))). BothTold o n.blocks (CameFrom (new_blocks name source st.tree))) reads.blocks y.adds;
            order = subst (λ (o : Option (List (List ℕ))). BothTold o n.blocks (InOrder name source st.tree)) reads.blocks y.order;
          };
      later = Later-trans m k n reads.later x.later;
      puts = let same = reads.puts in let most = x.puts in omega (arith, same, most);
    }

-- from the document that was opened
pub moved_doc : (rows : List Row) → IsSchema rows → (h : List ℕ → List ℕ) (ty : TypeNo) (root name source : List ℕ) (m k n : Moment) (d : Doc) (r : Result BlockId NameFault) → Opens (HasOpened h rows ty root k) h rows ty root m (Ok d) k
    → IfErr r TellsBytes → Names h (table_in d) (type_in d) (block_in d) name source k r n → Migrates h rows ty root name source m (answer_of r) n
moved_doc rows schema h ty root name source m k n d r x bytes names =
    moved rows schema h ty root name source m k (block_in d) x.answer.root x.only x.answer.value n r bytes
    (subst (λ (table : List Row). Names h table ty (block_in d) name source k r n) x.answer.table (subst (λ (t : TypeNo). Names h (table_in d) t (block_in d) name source k r n) x.answer.type names))
