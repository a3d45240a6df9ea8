use Rattle.std.proofs.Common.{refl, sym, ◌∙◌, subst}
use Rattle.std.proofs.lemmas.Bool.{false≢true}
use Rattle.ild_data.specs.Data.{Data}
use Rattle.ild_cbor.specs.Nodes.{HasData}
use Rattle.ild_data.specs.Trie.{node_data}
use Rattle.ild_typed.specs.Hamt.{root_map}
use Rattle.ild_node_slots.specs.Form.{hash_alg, bucket_size}
use Rattle.ild_node_slots.specs.Roots.{HasOtherInt}
use Rattle.ild_node_slots.proofs.Rooting.{not-other, root-same, root-parts}
use Rattle.ild_node_slots.proofs.root.root_of.Goals as goal

pub returns-then-has_other_int-clause-only : goal.returns-then-has_other_int-clause-only
returns-then-has_other_int-clause-only c = λ slots t h root.
    absurd (not-other (root_map c.args.shape (node_data slots)) hash_alg 18 refl
    (subst (λ (d : Data). HasOtherInt d hash_alg 18) root.tree ((c.has_other_int.ensures t h).0 c.if-has_other_int.true)))

pub returns-then-has_other_int-2-clause-only : goal.returns-then-has_other_int-2-clause-only
returns-then-has_other_int-2-clause-only c = λ slots t h root.
    absurd (not-other (root_map c.args.shape (node_data slots)) bucket_size c.args.shape.bucket refl
    (subst (λ (d : Data). HasOtherInt d bucket_size c.args.shape.bucket) root.tree ((c.has_other_int-2.ensures t h).0 c.if-has_other_int-2.true)))

pub returns-in-Some-clause-only : goal.returns-in-Some-clause-only
returns-in-Some-clause-only c = λ slots t h root.
    let f = c.in-Some.ensures.found t h in
    let same = root-same c.args.shape f.0 (node_data slots) (sym f.1 ∙ root.tree) in
    c.node_of.ensures.only slots (subst (λ (d : Data). HasData c.in-Some.item d) same f.2.stands) (record { many = root.indices; each = root.each })

pub returns-in-None-clause-only : goal.returns-in-None-clause-only
returns-in-None-clause-only c = λ slots t h root. absurd (false≢true (c.in-None.ensures.only (node_data slots) (subst (λ (d : Data). HasData c.args.node d) root.tree h)))

pub returns-in-Some-clause-found : goal.returns-in-Some-clause-found
returns-in-Some-clause-found c = λ t h.
    let f = c.in-Some.ensures.found t h in
    root-parts c.args.shape t f.0 c.args.node c.in-Some.item c.node_of.result f.1 f.2 (c.node_of.ensures.found f.0 f.2.stands) c.node_of.ensures.item
