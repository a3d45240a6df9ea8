use Rattle.std.proofs.Common.{[], Ok, Err, refl}
use Rattle.std.proofs.lemmas.Result.{err_from_is_err_and}
use Rattle.ild_data.specs.TrieShape.{trie_levels}
use Rattle.ild_bulk.specs.Build.{plan_of}
use Rattle.ild_bulk.proofs.Childs.{plan-follows, puts-whole}
use Rattle.ild_bulk.proofs.Nests.{short-blocks}
use Rattle.ild_bulk.proofs.Tries.{plan-stopped, build-long, build-short, puts-plan, stops-any}
use Rattle.ild_bulk.proofs.build.from_entries.Goals as goal

pub returns-in_err-root-clause-built : goal.returns-in_err-root-clause-built
returns-in_err-root-clause-built g c =
    let p = err_from_is_err_and c.from_residual.result c.from_residual.ensures.1 in
    rw (p.1, p.2) (plan-stopped g.H.KeyHash.hash_of c.args.shape c.args.entries.now c.args.entries.now c.in_err-root.field-0.0 c.new-blocks.result.items c.plan_rows.new.blocks.items _
    refl c.in_err-root.ensures.rows
    c.in_err-root.ensures.plans)

pub returns-then-long-clause-built : goal.returns-then-long-clause-built
returns-then-long-clause-built g c = (
  build-long g.H.KeyHash.hash_of c.args.shape c.args.entries.now c.args.entries.now c.in_ok-root.root c.new-blocks.result.items c.plan_rows.new.blocks.items c.deref.result.now c.is_long.result c.any_long.result refl c.in_ok-root.ensures.rows c.new-blocks.ensures.items
      c.in_ok-root.ensures.plans
      c.deref.ensures.value c.is_long.ensures c.any_long.ensures c.if-long.true,
  refl,
)

pub returns-in_err-put_all-clause-built : goal.returns-in_err-put_all-clause-built
returns-in_err-put_all-clause-built g c =
    let p = err_from_is_err_and c.from_residual-in_err-put_all.result c.from_residual-in_err-put_all.ensures.1 in
    let planned = c.in_ok-root.ensures.plans in
    rw (p.1, p.2) (stops-any g.H.KeyHash.hash_of c.args.shape c.args.entries.now _ c.in_err-put_all.field-0.0 _ (record {
      root = c.in_ok-root.root;
      has = build-short g.H.KeyHash.hash_of c.args.shape c.args.entries.now c.args.entries.now c.in_ok-root.root c.new-blocks.result.items c.plan_rows.new.blocks.items c.deref.result.now c.is_long.result c.any_long.result refl c.in_ok-root.ensures.rows c.new-blocks.ensures.items planned
          c.deref.ensures.value c.is_long.ensures c.any_long.ensures c.if-long.false;
      puts = puts-plan g.H.KeyHash.hash_of c.args.shape c.args.entries.now c.args.entries.now c.in_ok-root.root c.new-blocks.result.items c.plan_rows.new.blocks.items c.deref-2.result.now _ (Err c.in_err-put_all.field-0.0) _ refl c.new-blocks.ensures.items planned
          c.deref-2.ensures.value c.in_err-put_all.ensures;
    }))

pub returns-in_err-put_all-clause-children : goal.returns-in_err-put_all-clause-children
returns-in_err-put_all-clause-children g c =
    let planned = c.in_ok-root.ensures.plans in
    puts-whole _ _ (plan_of g.H.KeyHash.hash_of c.args.shape c.args.entries.now) (Err c.in_err-put_all.field-0.0) (plan-follows g.H.KeyHash.hash_of c.args.shape (trie_levels c.args.shape) 0 c.args.entries.now [])
    (puts-plan g.H.KeyHash.hash_of c.args.shape c.args.entries.now c.args.entries.now c.in_ok-root.root c.new-blocks.result.items c.plan_rows.new.blocks.items c.deref-2.result.now _ (Err c.in_err-put_all.field-0.0) _ refl c.new-blocks.ensures.items planned c.deref-2.ensures.value c.in_err-put_all.ensures)

pub returns-clause-built : goal.returns-clause-built
returns-clause-built g c =
    let planned = c.in_ok-root.ensures.plans in (
      build-short g.H.KeyHash.hash_of c.args.shape c.args.entries.now c.args.entries.now c.in_ok-root.root c.new-blocks.result.items c.plan_rows.new.blocks.items c.deref.result.now c.is_long.result c.any_long.result refl c.in_ok-root.ensures.rows c.new-blocks.ensures.items planned
          c.deref.ensures.value c.is_long.ensures c.any_long.ensures c.if-long.false,
      puts-plan g.H.KeyHash.hash_of c.args.shape c.args.entries.now c.args.entries.now c.in_ok-root.root c.new-blocks.result.items c.plan_rows.new.blocks.items c.deref-2.result.now _ (Ok tt) _ refl c.new-blocks.ensures.items planned c.deref-2.ensures.value c.in_ok-put_all.ensures,
    )

pub returns-clause-children : goal.returns-clause-children
returns-clause-children g c =
    let planned = c.in_ok-root.ensures.plans in
    puts-whole _ _ (plan_of g.H.KeyHash.hash_of c.args.shape c.args.entries.now) (Ok tt) (plan-follows g.H.KeyHash.hash_of c.args.shape (trie_levels c.args.shape) 0 c.args.entries.now [])
    (puts-plan g.H.KeyHash.hash_of c.args.shape c.args.entries.now c.args.entries.now c.in_ok-root.root c.new-blocks.result.items c.plan_rows.new.blocks.items c.deref-2.result.now _ (Ok tt) _ refl c.new-blocks.ensures.items planned c.deref-2.ensures.value c.in_ok-put_all.ensures)

pub returns-clause-within : goal.returns-clause-within
returns-clause-within g c =
    let planned = c.in_ok-root.ensures.plans in
    short-blocks c.args.shape g.H.KeyHash.hash_of c.args.entries.now c.in_ok-root.root c.in_ok-root.ensures.rows
    (build-short g.H.KeyHash.hash_of c.args.shape c.args.entries.now c.args.entries.now c.in_ok-root.root c.new-blocks.result.items c.plan_rows.new.blocks.items c.deref.result.now c.is_long.result c.any_long.result refl c.in_ok-root.ensures.rows c.new-blocks.ensures.items planned
    c.deref.ensures.value c.is_long.ensures c.any_long.ensures c.if-long.false)
