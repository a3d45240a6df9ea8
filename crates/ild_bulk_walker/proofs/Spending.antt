-- A walk reads each block beneath its root at most once.
use Rattle.std.proofs.Common.{◌≡◌, ◌⊎◌, ⊎_elim, ℕ, suc, ◌+◌, ◌-◌, ◌<◌, ◌≤◌, List, [], ◌∷◌, ◌++◌, length, map, Some, refl, sym, ap, ◌∙◌, subst, arith, append_assoc, append-nil}
use Rattle.std.specs.Prelude.{Result, Ok, Err}
use Rattle.std.proofs.lemmas.List.{length-append}
use Rattle.std.proofs.lemmas.Option.{same_Some}
use Rattle.ild_data.specs.declared.hamt_shape.HamtShape.{HamtShape}
use Rattle.ild_data.specs.Data.{Data}
use Rattle.ild_data.specs.Trie.{TrieSlot, empty, bucket, child}
use Rattle.ild_data.specs.TrieShape.{trie_levels}
use Rattle.ild_edges.specs.Told.{IfTold}
use Rattle.ild_edges.specs.Store.{Moment, block_at}
use Rattle.ild_node_slots.specs.declared.fault.HamtFault.{HamtFault}
use Rattle.ild_bulk_walker.specs.Ahead.{walker_todo}
use Rattle.ild_bulk_walker.specs.inside.Stepping.{NextIs, IsEntered, IsTaken, IsUnchanged, SameNodes}
use Rattle.ild_bulk_walker.specs.Fetching.{GotSteps}
use Rattle.ild_bulk_walker.specs.Gives.{IsNodeOf}
use Rattle.ild_bulk_walker.specs.Reads.{SlotNodes, SlotsNodes, NodesIn, NoNodes, TreeNodes, NodesBeneath, TodoNodes, LeftNodes, Spent, Spends}
use Rattle.ild_bulk_walker.specs.Todo.{Todo, give, enter, leave, slot_todo, node_todo}
use Rattle.ild_bulk_walker.specs.declared.row.Row.{Row}
use Rattle.ild_bulk_walker.specs.declared.step.Child.{Child}
use Rattle.ild_bulk_walker.specs.declared.step.Step.{Step}
use Rattle.ild_bulk_walker.specs.declared.walker.Walker.{Walker}
use Rattle.ild_bulk_walker.proofs.OneNode.{same-slots}

-- ---- the steps of a node

sum-of : (a b c : ℕ) → (a + b) + c ≡ a + (b + c)
sum-of a b c = omega arith

bucket-nodes : (p : HamtShape) (held : List (List ℕ)) (level i : ℕ) (es : List (List ℕ × Data)) (todo : List Todo) (n : ℕ) → TodoNodes p held level todo n → TodoNodes p held level (map (λ e. give e.0 e.1 i) es ++ todo) n
bucket-nodes p held level i [] todo n t = t
bucket-nodes p held level i (e ∷ es) todo n t = bucket-nodes p held level i es todo n t

no-more : (a b : ℕ) → a ≡ 0 → b ≡ a + b
no-more a b is = omega arith

slot-nodes : (p : HamtShape) (held : List (List ℕ)) (level i : ℕ) (s : TrieSlot) (todo : List Todo) (a b : ℕ) → SlotNodes (TreeNodes p held (trie_levels p - suc level)) s a → TodoNodes p held level todo b → TodoNodes p held level (slot_todo i s ++ todo) (a + b)
slot-nodes p held level i empty todo a b s t = subst (TodoNodes p held level todo) (no-more a b s) t
slot-nodes p held level i (bucket es) todo a b s t = bucket-nodes p held level i es todo (a + b) (subst (TodoNodes p held level todo) (no-more a b s) t)
slot-nodes p held level i (child id) todo a b s t = (a, b, refl, s, t)

pub node-nodes : (p : HamtShape) (held : List (List ℕ)) (level i : ℕ) (slots : List TrieSlot) (todo : List Todo) (a b : ℕ) → SlotsNodes (TreeNodes p held (trie_levels p - suc level)) slots a → TodoNodes p held level todo b → TodoNodes p held level (node_todo i slots ++ todo) (a + b)
node-nodes p held level i [] todo a b s t = subst (TodoNodes p held level todo) (no-more a b s) t
node-nodes p held level i (s ∷ slots) todo a b ss t =
    subst (λ ts. TodoNodes p held level ts (a + b)) (sym (append_assoc (slot_todo i s) (node_todo (i + 1) slots) todo))
    (subst (TodoNodes p held level (slot_todo i s ++ (node_todo (i + 1) slots ++ todo))) (sym (sum-of ss.0 ss.1 b) ∙ ap (λ n. n + b) (sym ss.2))
    (slot-nodes p held level i s (node_todo (i + 1) slots ++ todo) ss.0 (ss.1 + b) ss.3 (node-nodes p held level (i + 1) slots todo ss.1 b ss.4 t)))

-- ---- what calls spend

left-of : (p : HamtShape) (held : List (List ℕ)) (w : Walker) (level : ℕ) (todo : List Todo) (n : ℕ) → length w.path.items ≡ level → walker_todo w ≡ todo → TodoNodes p held level todo n → LeftNodes p held w n
left-of p held w level todo n long steps t = record { many = subst (λ k. TodoNodes p held k (walker_todo w) n) (sym long) (subst (λ ts. TodoNodes p held level ts n) (sym steps) t) }

nodes-at : (p : HamtShape) (held : List (List ℕ)) (w : Walker) (todo : List Todo) (n : ℕ) → walker_todo w ≡ todo → LeftNodes p held w n → TodoNodes p held (length w.path.items) todo n
nodes-at p held w todo n steps l = subst (λ ts. TodoNodes p held (length w.path.items) ts n) steps l.many

abbrev pub Passes : HamtShape → List (List ℕ) → ℕ → ℕ → Walker → Walker → Type 0
Passes p held a b v w = (n : ℕ) → LeftNodes p held v n → Spent p held a b n w

pub passes-itself : (p : HamtShape) (held : List (List ℕ)) (a : ℕ) (v : Walker) → Passes p held a a v v
passes-itself p held a v = λ n l. record { left = n; nodes = l; gets = omega arith }

pub spends-none : (p : HamtShape) (held : List (List ℕ)) (a : ℕ) (v : Walker) → (n : ℕ) → LeftNodes p held v n → a ≤ a + n
spends-none p held a v = λ n l. omega arith

pub spends-more : {B : Type 0} (p : HamtShape) (held : List (List ℕ)) (a b c : ℕ) (u v w : Walker) (r : Result B HamtFault) → Passes p held a b u v → Spends p held b c v r w → Spends p held a c u r w
spends-more p held a b c u v w (Ok x) first then = λ n l. let s = first n l in let q = then s.left s.nodes in record { left = q.left; nodes = q.nodes; gets = let one = s.gets in let two = q.gets in omega arith }
spends-more p held a b c u v w (Err e) first then = λ n l. let s = first n l in let q = then s.left s.nodes in let one = s.gets in omega arith

pub left-nodes : (p : HamtShape) (v w : Walker) (before : ℕ) (c : Child) → walker_todo v ≡ leave before ∷ walker_todo w → v.path.items ≡ w.path.items ++ c ∷ [] → SameNodes p v w
left-nodes p v w before c todo path = λ held n l.
    let long = ap (λ (xs : List Child). length xs) path in
    let more = length-append w.path.items (c ∷ []) in
    let level : length w.path.items ≡ length v.path.items - 1 = omega arith in
    left-of p held w (length v.path.items - 1) (walker_todo w) n level refl (nodes-at p held v (leave before ∷ walker_todo w) n todo l)

pub left-passes : (p : HamtShape) (held : List (List ℕ)) (a : ℕ) (v w : Walker) (before : ℕ) (c : Child) → walker_todo v ≡ leave before ∷ walker_todo w → v.path.items ≡ w.path.items ++ c ∷ [] → Passes p held a a v w
left-passes p held a v w before c todo path = λ n l. record { left = n; nodes = left-nodes p v w before c todo path held n l; gets = omega arith }

pub taken-nodes : (p : HamtShape) (v w : Walker) (row : Row) → IsTaken v row w → SameNodes p v w
taken-nodes p v w row t = λ held n l. left-of p held w (length v.path.items) t.rest n (ap (λ (xs : List Child). length xs) t.children) t.todo (nodes-at p held v (give row.key t.value t.index ∷ t.rest) n t.was l)

pub taken-passes : (p : HamtShape) (held : List (List ℕ)) (a : ℕ) (v w : Walker) (row : Row) → IsTaken v row w → Passes p held a a v w
taken-passes p held a v w row t = λ n l. record { left = n; nodes = taken-nodes p v w row t held n l; gets = omega arith }

pub unchanged-nodes : (p : HamtShape) (v w : Walker) → IsUnchanged v w → SameNodes p v w
unchanged-nodes p v w u = λ held n l. left-of p held w (length v.path.items) (walker_todo v) n (ap (λ (xs : List Child). length xs) u.children) u.todo l.many

one-left : (p : HamtShape) (n : ℕ) → suc n < trie_levels p → trie_levels p - suc n ≡ suc (trie_levels p - suc (suc n))
one-left p n short = omega arith

next-level : (n : ℕ) → n + 1 ≡ suc n
next-level n = omega arith

back-level : (n : ℕ) → n ≡ suc n - 1
back-level n = omega arith

-- a child that is to be entered counts one
record First (p : HamtShape) (held : List (List ℕ)) (level : ℕ) (id : List ℕ) (rest : List Todo) (n : ℕ) : Type 0 where
  pub beneath : ℕ
  pub more : ℕ
  pub is : n ≡ (1 + beneath) + more
  pub within : NodesIn p held (TreeNodes p held (trie_levels p - suc (suc level))) id beneath ⊎ NoNodes p held id beneath
  pub others : TodoNodes p held level rest more

first-of : (p : HamtShape) (held : List (List ℕ)) (level : ℕ) (id : List ℕ) (i : ℕ) (rest : List Todo) (n : ℕ) → suc level < trie_levels p → TodoNodes p held level (enter id i ∷ rest) n → First p held level id rest n
first-of p held level id i rest n short t =
    let tree = subst (λ left. TreeNodes p held left id t.0) (one-left p level short) t.3 in
    record { beneath = tree.0; more = t.1; is = t.2 ∙ ap (λ k. k + t.1) tree.1; within = tree.2; others = t.4 }

-- a get of its block, whatever comes of it
pub enter-spends : (p : HamtShape) (held : List (List ℕ)) (a b : ℕ) (v : Walker) (c : Child) → NextIs (enter c.id.0 c.index) v → suc (length v.path.items) < trie_levels p → b ≤ a + 1 → (n : ℕ) → LeftNodes p held v n → b ≤ a + n
enter-spends p held a b v c next short one = λ n l.
    let f = first-of p held (length v.path.items) c.id.0 c.index next.rest n short (nodes-at p held v (enter c.id.0 c.index ∷ next.rest) n next.is l) in
    let is = f.is in
    omega arith

told-block : (m : Moment) (held : List (List ℕ)) (id block : List ℕ) → IfTold m.blocks (λ bs. block_at bs id ≡ Some block) → m.blocks ≡ Some held → block_at held id ≡ Some block
told-block m held id block told is = subst (λ o. IfTold o (λ bs. block_at bs id ≡ Some block)) is told

-- where its block is held, one node fewer is to be read
pub entered-nodes : (p : HamtShape) (m o : Moment) (held : List (List ℕ)) (v w : Walker) (c : Child) (steps : List Step) → suc (length v.path.items) < trie_levels p → (got : GotSteps p m c.id.0 steps o) → block_at held c.id.0 ≡ Some got.block → IsEntered v c steps w
    → (n : ℕ) → LeftNodes p held v n → (left : ℕ) × (n ≡ 1 + left) × LeftNodes p held w left
entered-nodes p m o held v w c steps short got here e = λ n l.
    let level : ℕ = length v.path.items in
    let f = first-of p held level c.id.0 c.index e.rest n short (nodes-at p held v (enter c.id.0 c.index ∷ e.rest) n e.was l) in
    let many : SlotsNodes (TreeNodes p held (trie_levels p - suc (suc level))) got.has.slots f.beneath = ⊎_elim
    (λ d.
    let same : d.node.block ≡ got.block = same_Some d.node.block got.block (sym d.node.at.held ∙ here) in
    let alike : d.slots ≡ got.has.slots = same-slots p d.slots got.has.slots got.block (subst (λ x. IsNodeOf p x d.slots) same d.node.node) got.has.node in
    subst (λ ss. SlotsNodes (TreeNodes p held (trie_levels p - suc (suc level))) ss f.beneath) alike d.many)
    (λ none. absurd (none.none got.has.slots (record { block = got.block; at = record { named = got.at.named; held = here }; node = got.has.node }))) f.within in
    let todo : walker_todo w ≡ node_todo 0 got.has.slots ++ leave v.given ∷ e.rest = e.todo ∙ ap (λ ts. ts ++ leave v.given ∷ e.rest) got.has.todo in
    let long : length w.path.items ≡ suc level = ap (λ (xs : List Child). length xs) e.children ∙ length-append v.path.items (c ∷ []) ∙ next-level level in
    let is = f.is in (
      f.beneath + f.more,
      omega arith,
      left-of p held w (suc level) (node_todo 0 got.has.slots ++ leave v.given ∷ e.rest) (f.beneath + f.more) long todo
          (node-nodes p held (suc level) 0 got.has.slots (leave v.given ∷ e.rest) f.beneath f.more many (subst (λ k. TodoNodes p held k e.rest f.more) (back-level level) f.others)),
    )

pub entered-passes : (p : HamtShape) (m o : Moment) (held : List (List ℕ)) (a b : ℕ) (v w : Walker) (c : Child) (steps : List Step) → m.blocks ≡ Some held → suc (length v.path.items) < trie_levels p → b ≤ a + 1 → GotSteps p m c.id.0 steps o → IsEntered v c steps w → Passes p held a b v w
entered-passes p m o held a b v w c steps told short one got e = λ n l.
    let q = entered-nodes p m o held v w c steps short got (told-block m held c.id.0 got.block got.at.held told) e n l in
    let is = q.1 in
    record { left = q.0; nodes = q.2; gets = omega arith }

-- a new walker has all to read
pub new-left : (p : HamtShape) (held : List (List ℕ)) (slots : List TrieSlot) (w : Walker) (n : ℕ) → walker_todo w ≡ node_todo 0 slots → w.path.items ≡ [] → NodesBeneath p held slots n → LeftNodes p held w n
new-left p held slots w n todo path many =
    left-of p held w 0 (node_todo 0 slots) n (ap (λ (xs : List Child). length xs) path) todo
    (subst (λ ts. TodoNodes p held 0 ts n) (append-nil (node_todo 0 slots)) (subst (TodoNodes p held 0 (node_todo 0 slots ++ [])) (no-rest n) (node-nodes p held 0 0 slots [] n 0 many refl)))
  where
    no-rest : (n : ℕ) → n + 0 ≡ n
    no-rest n = omega arith
