use Rattle.std.proofs.Common.{◌≡◌, ℕ, List, refl, sym, ◌∙◌, subst, arith}
use Rattle.std.proofs.lemmas.Bool.{false≢true}
use Rattle.ild_data.specs.Bytes.{AreBytes}
use Rattle.ild_data.specs.Data.{Data}
use Rattle.ild_data.specs.Trie.{node_data}
use Rattle.ild_cbor.specs.Block.{IsBlockOf}
use Rattle.ild_typed.proofs.NodeRoots.{node-read, node-taken}
use Rattle.ild_bulk_walker.proofs.fetch.steps_at.Goals as goal

pub steps_in-requires : goal.steps_in-requires
steps_in-requires c =
    let d = c.in-Ok.ensures.found in
    record { of = d.0; stands = d.2.stands; here = d.2.block_is ∙ c.as_slice.ensures.same ∙ c.deref.ensures }

pub returns-in-Some : goal.returns-in-Some
returns-in-Some c =
    let same : c.as_slice.result.now ≡ c.args.held.now.value = c.as_slice.ensures.same ∙ c.deref.ensures in
    let d = c.in-Ok.ensures.found in
    let r = rw c.in-Some.is at c.in_ok-steps-in-Ok.ensures d.0 d.2.stands in
    let n = node-taken c.args.shape d.0 (omega arith) d.2.stands.within.tree r.0 in
    record {
      bytes = subst AreBytes c.deref.ensures c.as_slice.ensures.bytes;
      slots = n.slots;
      node = record {
        is = subst (λ (b : List ℕ). IsBlockOf b (node_data n.slots)) same (subst (λ (t : Data). IsBlockOf c.as_slice.result.now t) n.is d.1);
        form = record { many = n.many; each = n.each };
      };
      todo = r.1 n.slots n.is (record { many = n.many; each = n.each });
    }

pub returns-in-None : goal.returns-in-None
returns-in-None c =
    let same : c.as_slice.result.now ≡ c.args.held.now.value = c.as_slice.ensures.same ∙ c.deref.ensures in (
      refl,
      (
        refl,
        λ slots n.
            let root = (c.in-Ok.ensures.only (node_data slots) (subst (λ (b : List ℕ). IsBlockOf b (node_data slots)) (sym same) n.is)).1 in
            let none = rw c.in-None.is at c.in_ok-steps-in-Ok.ensures (node_data slots) root.stands in
            absurd (false≢true (sym none ∙ node-read c.args.shape slots (omega arith) n.form.many n.form.each)),
      ),
    )
