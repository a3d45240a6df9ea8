-- The block with another spelling in a part's span is that of the changed tree.
use Rattle.std.proofs.Common.{◌≡◌, ℕ, zero, suc, ◌+◌, ◌-◌, List, [], ◌∷◌, ◌++◌, length, take, drop, refl, ap, sym, subst, ◌∙◌, arith}
use Rattle.std.specs.Prelude.{Result}
use Rattle.std.proofs.lemmas.Option.{same_Some}
use Rattle.std.proofs.lemmas.List.{drop-drop}
use Rattle.ild_cbor.specs.declared.node.Node.{Node}
use Rattle.ild_cbor.specs.Nodes.{HasData, block_of, start_of}
use Rattle.ild_cbor.specs.Span.{Span}
use Rattle.ild_splice_changes.specs.TreeChange.{TreeStep, TreeChange, changed, change_here}
use Rattle.ild_splice_changes.proofs.Spans.{changes_are_spliced}
use Rattle.ild_data.specs.Data.{Data}
use Rattle.ild_data.specs.Spell.{spell}
use Rattle.ild_splice.specs.declared.error.SpliceErr.{SpliceErr}
use Rattle.ild_splice.specs.Made.{MakesBytes}
use Rattle.ild_splice.specs.Splices.{IsAt, Splices}

-- what stands behind the first so many, by how many there are of these
behind_taken : (n : ℕ) (xs : List ℕ) → drop n xs ≡ drop (length (take n xs)) xs
behind_taken zero xs = refl
behind_taken (suc n) [] = refl
behind_taken (suc n) (x ∷ xs) = behind_taken n xs

spliced : (n : Node) (t d : Data) (q : List TreeStep) (c : TreeChange) (front inner behind : List ℕ) → IsAt n t q d → front ≡ take (start_of n) (block_of n)
    → behind ≡ drop (start_of n + length (spell d)) (block_of n) → inner ≡ spell (change_here c d) → spell (changed q c t) ≡ front ++ (inner ++ behind)
spliced n t d q c front inner behind at front_is behind_is inner_is =
    let s = changes_are_spliced q c t d at.part in
    let a = s.span.start in
    let m = s.span.size in
    let long = length (spell d) in
    let same : s.span ≡ at.span = same_Some s.span at.span (sym s.is ∙ at.spans) in
    let from : a ≡ start_of n = ap (λ (x : Span). x.start) same ∙ sym at.start in
    let less : m ≡ a + m - a = omega arith in
    let here : take m (drop a (spell t)) ≡ spell d = ap (λ (k : ℕ). take k (drop a (spell t))) less ∙ s.now in
    let one : take a (spell t) ≡ front = (λ i. take (from i) (sym at.whole i)) ∙ sym front_is in
    let last : drop (a + m) (spell t) ≡ drop (a + long) (spell t) =
    sym (drop-drop m a (spell t)) ∙ behind_taken m (drop a (spell t)) ∙ ap (λ (xs : List ℕ). drop (length xs) (drop a (spell t))) here ∙ drop-drop long a (spell t) in
    let two : drop (a + m) (spell t) ≡ behind = last ∙ (λ i. drop (from i + long) (sym at.whole i)) ∙ sym behind_is in
    s.after ∙ (λ i. one i ++ (sym inner_is i ++ two i))

pub splices : (n : Node) (c : TreeChange) (front inner behind : List ℕ) (r : Result (List ℕ) SpliceErr) → MakesBytes (front ++ (inner ++ behind)) r → front ≡ take (start_of n) (block_of n)
    → ((d : Data) → HasData n d → behind ≡ drop (start_of n + length (spell d)) (block_of n)) → ((d : Data) → HasData n d → inner ≡ spell (change_here c d)) → Splices n c r
splices n c front inner behind r made front_is behind_is inner_is =
    record { makes = λ t d q at. subst (λ (xs : List ℕ). MakesBytes xs r) (sym (spliced n t d q c front inner behind at front_is (behind_is d at.stands) (inner_is d at.stands))) made }
