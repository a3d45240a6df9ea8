-- A proof made behind the opening of a root.
use Rattle.std.proofs.Common.{◌≡◌, ℕ, ◌+◌, ◌≤◌, List, length, Option, Some, None, Result, Ok, Err, refl, sym, ◌∙◌, subst, inr, arith}
use Rattle.std.proofs.Math.Logic.{∥∥₁_map}
use Rattle.ild_cbor.specs.declared.why.BlockWhy.{BlockWhy}
use Rattle.ild_data.specs.Spell.{id_of}
use Rattle.ild_data.specs.declared.id.BlockId.{BlockId}
use Rattle.ild_edges.proofs.Reading.{from_told, reads_then}
use Rattle.ild_edges.specs.Gained.{OnlyReads}
use Rattle.ild_edges.specs.Store.{Moment, block_at}
use Rattle.ild_edges.specs.Told.{IfTold}
use Rattle.ild_inclusion.specs.Says.{BlocksSay}
use Rattle.ild_inclusion.specs.declared.answer.Answer.{Answer}
use Rattle.ild_path_enter.specs.Enters.{FailsOnly}
use Rattle.ild_inclusion_prove.specs.Proves.{Proves, ProvesHeld}
use Rattle.ild_node_slots.specs.declared.fault.HamtFault.{HamtFault}
use Rattle.ild_node_slots.specs.declared.fault.HamtFault.TheVariants as H
use Rattle.ild_open.specs.Opened.{HasOpened, Opens, OpenStops, StandsInBlock}
use Rattle.ild_open_parts.proofs.Breaking.{broken_earlier, rose_later}
use Rattle.ild_open_parts.specs.Broken.{HasBrokenBlock}
use Rattle.ild_open_parts.specs.declared.fault.OpenFault.{OpenFault}
use Rattle.ild_open_parts.specs.declared.fault.OpenFault.TheVariants as O
use Rattle.ild_path_found.specs.Sites.{RefusesBroken}
use Rattle.ild_path_inward.specs.Levels.{met_on}
use Rattle.ild_schema.specs.Slots.{plainly}
use Rattle.ild_schema.specs.Value.{Value}
use Rattle.ild_schema.specs.declared.number.TypeNo.{TypeNo}
use Rattle.ild_schema.specs.declared.row.Row.{Row}
use Rattle.ild_typed.specs.Stands.{bare, blocks_of, Stands}
use Rattle.ild_view_doc.specs.Block.{IsRootBlock}
use Rattle.ild_view_doc.specs.Docs.{block_in, table_in, type_in}
use Rattle.ild_view_doc.specs.declared.doc.Doc.{Doc}
use Rattle.ild_run_prove.specs.Proved.{NotProved, Prints, ProveAnswer, ProvesPath}
use Rattle.ild_run_prove.specs.inside.Faults.{made_fault, open_fault}
use Rattle.ild_run_prove.specs.declared.fault.ProveFault.{ProveFault}
use Rattle.ild_run_prove.specs.declared.fault.ProveFault.TheVariants as F

module _ (h : List ℕ → List ℕ) (rows : List Row) (n : TypeNo) (id : List ℕ) (path : List (List ℕ)) (m k j : Moment) (d : Doc) (opened : HasOpened h rows n id k d) (x : OnlyReads m k) where
  root_at : (held : List (List ℕ)) → k.blocks ≡ Some held → block_at held (id_of (block_in d)) ≡ Some (block_in d)
  root_at held told =
      let it = from_told k (λ held. (v : Value) × StandsInBlock h rows n id held (block_in d) v) opened.value held told in
      subst (λ (b : List ℕ). block_at held (id_of b) ≡ Some b) (sym it.1.spelled) it.1.stands.all.0

  under : (o : Option (List (List ℕ))) → m.blocks ≡ o → IfTold o (λ blocks. block_at blocks id ≡ Some (block_in d))
  under None told = tt
  under (Some held) told = subst (λ (i : List ℕ). block_at held i ≡ Some (block_in d)) opened.root (root_at held (x.blocks ∙ told))

  module _ (result : Result (List (List ℕ)) HamtFault) (stands : (was : List (List ℕ)) (v : Value) → k.blocks ≡ Some was → block_at was (id_of (block_in d)) ≡ Some (block_in d)
      → Stands bare (block_at was) h (table_in d) (type_in d) (id_of (block_in d)) v → ProvesHeld h (table_in d) (type_in d) (id_of (block_in d)) v path k result j) where
    pub on_held : (held : List (List ℕ)) (v : Value) → m.blocks ≡ Some held → Stands bare (block_at held) h rows n id v → ProvesHeld h rows n id v path k result j
    on_held held v told st =
        let there = x.blocks ∙ told in
        let own : Stands bare (block_at held) h (table_in d) (type_in d) (id_of (block_in d)) v =
        subst (λ (r : List Row). Stands bare (block_at held) h r (type_in d) (id_of (block_in d)) v) (sym opened.table)
        (subst (λ (t : TypeNo). Stands bare (block_at held) h rows t (id_of (block_in d)) v) (sym opened.type)
        (subst (λ (i : List ℕ). Stands bare (block_at held) h rows n i v) (sym opened.root) st)) in
        subst (λ (r : List Row). ProvesHeld h r n id v path k result j) opened.table
        (subst (λ (t : TypeNo). ProvesHeld h (table_in d) t id v path k result j) opened.type
        (subst (λ (i : List ℕ). ProvesHeld h (table_in d) (type_in d) i v path k result j) opened.root (stands held v there (root_at held there) own)))

    pub gets : ((held : List (List ℕ)) (v : Value) → m.blocks ≡ Some held → (st : Stands bare (block_at held) h rows n id v) → k.gets ≤ m.gets + length (blocks_of bare h rows n v st.tree))
        → (held : List (List ℕ)) (v : Value) → m.blocks ≡ Some held → (st : Stands bare (block_at held) h rows n id v) → j.gets ≤ m.gets + length (blocks_of bare h rows n v st.tree) + met_on h rows (plainly n, v) path
    gets bound held v told st = let one = bound held v told st in let two = (on_held held v told st).gets in omega (arith, one, two)

  pub says_so : (proof : List (List ℕ)) → ∥ Proves h (table_in d) (type_in d) (block_in d) path k proof j ∥₁ → ∥ ((a : Answer) × BlocksSay h rows n id path proof a) ∥₁
  says_so proof made = ∥∥₁_map made (λ p. (
    p.answer,
    subst (λ (r : List Row). BlocksSay h r n id path proof p.answer) opened.table
        (subst (λ (t : TypeNo). BlocksSay h (table_in d) t id path proof p.answer) opened.type
        (subst (λ (i : List ℕ). BlocksSay h (table_in d) (type_in d) i path proof p.answer) opened.root p.says)),
  ))

  pub not_proved : (at : BlockId) (why : BlockWhy) → ((was : List (List ℕ)) (v : Value) → k.blocks ≡ Some was → block_at was (id_of (block_in d)) ≡ Some (block_in d)
      → Stands bare (block_at was) h (table_in d) (type_in d) (id_of (block_in d)) v → ProvesHeld h (table_in d) (type_in d) (id_of (block_in d)) v path k (Err (H.Block at why)) j)
      → ((f : Value) (root : IsRootBlock (table_in d) (type_in d) (block_in d) f) → HasBrokenBlock h (table_in d) k.blocks k.lacks j.lacks (id_of (block_in d)) 96 (plainly (type_in d)) root.tree at.0 why)
      → NotProved h rows n id path m at.0 why j
  not_proved at why stands refuses = record {
    none = λ held v told st. (on_held (Err (H.Block at why)) stands held v told st).answer;
    refused = ∥∥₁_map d.stands (λ r. inr (record {
      block = block_in d;
      at = record { named = opened.root; held = under m.blocks refl };
      tree = r.root.tree;
      is = r.root.block;
      wrong = broken_earlier h id rows 96 (plainly n, r.root.tree) m k j at.0 why x
          (subst (λ (q : List Row). HasBrokenBlock h q k.blocks k.lacks j.lacks id 96 (plainly n) r.root.tree at.0 why) opened.table
          (subst (λ (t : TypeNo). HasBrokenBlock h (table_in d) k.blocks k.lacks j.lacks id 96 (plainly t) r.root.tree at.0 why) opened.type
          (subst (λ (i : List ℕ). HasBrokenBlock h (table_in d) k.blocks k.lacks j.lacks i 96 (plainly (type_in d)) r.root.tree at.0 why) opened.root (refuses r.value r.root))));
    }));
  }

  -- ---- the whole call

  module _ (y : OnlyReads k j) (bound : (held : List (List ℕ)) (v : Value) → m.blocks ≡ Some held → (st : Stands bare (block_at held) h rows n id v) → k.gets ≤ m.gets + length (blocks_of bare h rows n v st.tree))
      (result : Result (List (List ℕ)) HamtFault) (stands : (was : List (List ℕ)) (v : Value) → k.blocks ≡ Some was → block_at was (id_of (block_in d)) ≡ Some (block_in d)
      → Stands bare (block_at was) h (table_in d) (type_in d) (id_of (block_in d)) v → ProvesHeld h (table_in d) (type_in d) (id_of (block_in d)) v path k result j) where
    answered_so : (told : Result (List ℕ) ProveFault) → ProveAnswer h rows n id path m told j → ProvesPath h rows n id path m told j
    answered_so told answer = record { answer = answer; reads = reads_then m k j x y; gets = gets result stands bound }

    pub wanting : ProvesPath h rows n id path m (Err F.Memory) j
    wanting = answered_so (Err F.Memory) tt

  pub proved : OnlyReads k j → ((held : List (List ℕ)) (v : Value) → m.blocks ≡ Some held → (st : Stands bare (block_at held) h rows n id v) → k.gets ≤ m.gets + length (blocks_of bare h rows n v st.tree))
      → (proof : List (List ℕ)) (json : List ℕ) → ((was : List (List ℕ)) (v : Value) → k.blocks ≡ Some was → block_at was (id_of (block_in d)) ≡ Some (block_in d)
      → Stands bare (block_at was) h (table_in d) (type_in d) (id_of (block_in d)) v → ProvesHeld h (table_in d) (type_in d) (id_of (block_in d)) v path k (Ok proof) j)
      → ∥ Proves h (table_in d) (type_in d) (block_in d) path k proof j ∥₁ → Prints proof json → ProvesPath h rows n id path m (Ok json) j
  proved y bound proof json stands made prints = answered_so y bound (Ok proof) stands (Ok json) (record {
    blocks = proof;
    prints = prints;
    says = says_so proof made;
    held = λ held v told st. (on_held (Ok proof) stands held v told st).answer;
  })

  pub failed : OnlyReads k j → ((held : List (List ℕ)) (v : Value) → m.blocks ≡ Some held → (st : Stands bare (block_at held) h rows n id v) → k.gets ≤ m.gets + length (blocks_of bare h rows n v st.tree))
      → (fault : HamtFault) → ((was : List (List ℕ)) (v : Value) → k.blocks ≡ Some was → block_at was (id_of (block_in d)) ≡ Some (block_in d)
      → Stands bare (block_at was) h (table_in d) (type_in d) (id_of (block_in d)) v → ProvesHeld h (table_in d) (type_in d) (id_of (block_in d)) v path k (Err fault) j)
      → FailsOnly {A = List (List ℕ)} k (Err fault) j → ((f : Value) (root : IsRootBlock (table_in d) (type_in d) (block_in d) f)
      → RefusesBroken {A = List (List ℕ)} h (table_in d) (id_of (block_in d)) 96 (plainly (type_in d)) root.tree k (Err fault) j) → ProvesPath h rows n id path m (Err (made_fault fault)) j
  failed y bound fault stands alone refuses = answered_so y bound (Err fault) stands (Err (made_fault fault)) (by fault stands alone refuses) where
    by : (fault : HamtFault) → ((was : List (List ℕ)) (v : Value) → k.blocks ≡ Some was → block_at was (id_of (block_in d)) ≡ Some (block_in d)
        → Stands bare (block_at was) h (table_in d) (type_in d) (id_of (block_in d)) v → ProvesHeld h (table_in d) (type_in d) (id_of (block_in d)) v path k (Err fault) j)
        → FailsOnly {A = List (List ℕ)} k (Err fault) j → ((f : Value) (root : IsRootBlock (table_in d) (type_in d) (block_in d) f)
        → RefusesBroken {A = List (List ℕ)} h (table_in d) (id_of (block_in d)) 96 (plainly (type_in d)) root.tree k (Err fault) j) → ProveAnswer h rows n id path m (Err (made_fault fault)) j
    by (H.Block at why) stands alone refuses = not_proved at why stands refuses
    by H.Store stands alone refuses = rose_later m.faults k.faults j.faults x.later.faults alone
    by H.Memory stands alone refuses = tt
    by H.Exhausted stands alone refuses = absurd alone
    by (H.Clash at kept new) stands alone refuses = absurd alone
    by H.Size stands alone refuses = absurd alone
    by H.NoKey stands alone refuses = absurd alone

-- a root that wasn't opened
pub unopened : (h : List ℕ → List ℕ) (rows : List Row) (n : TypeNo) (id : List ℕ) (path : List (List ℕ)) (m k : Moment) (fault : OpenFault) → Opens (HasOpened h rows n id k) h rows n id m (Err fault) k → ProvesPath h rows n id path m (Err (open_fault fault)) k
unopened h rows n id path m k fault opens = record { answer = by fault opens.answer; reads = opens.only; gets = bound } where
  by : (fault : OpenFault) → OpenStops h rows n id m fault k → ProveAnswer h rows n id path m (Err (open_fault fault)) k
  by (O.Block at why) stops = record { none = stops.0; refused = ∣ stops.1 ∣₁ }
  by O.Store stops = stops
  by O.Memory stops = tt

  bound : (held : List (List ℕ)) (v : Value) → m.blocks ≡ Some held → (st : Stands bare (block_at held) h rows n id v) → k.gets ≤ m.gets + length (blocks_of bare h rows n v st.tree) + met_on h rows (plainly n, v) path
  bound held v told st = let one = opens.gets held v told st in omega (arith, one)
