-- One call of a walker's next, put together.
use Rattle.std.proofs.Common.{◌≡◌, inl, inr, ⊎_elim, ◌↔◌, ℕ, ◌+◌, ◌-◌, ◌<◌, ◌≤◌, Bool, true, false, List, [], ◌∷◌, length, Option, Some, None, refl, sym, ap, ◌∙◌, subst, arith}
use Rattle.std.specs.Prelude.{Result, Ok, Err, IfErr}
use Rattle.std.proofs.lemmas.Bool.{false≢true}
use Rattle.ild_cbor.specs.declared.why.BlockWhy.{BlockWhy}
use Rattle.ild_cbor.specs.declared.why.BlockWhy.TheVariants.{Missing, Cbor, Shape as NoNode}
use Rattle.ild_data.specs.declared.hamt_shape.HamtShape.{HamtShape}
use Rattle.ild_data.specs.Data.{Data}
use Rattle.ild_data.specs.Trie.{TrieSlot}
use Rattle.ild_data.specs.TrieShape.{trie_levels}
use Rattle.ild_edges.specs.Count.{Rose}
use Rattle.ild_edges.specs.Gained.{AreHeld, FromBlocks}
use Rattle.ild_edges.specs.Store.{Moment, Later, block_at}
use Rattle.ild_edges.specs.Told.{IfTold}
use Rattle.ild_edges.proofs.Later.{Later-refl, Later-trans}
use Rattle.ild_node_slots.specs.declared.fault.HamtFault.{HamtFault}
use Rattle.ild_node_slots.specs.declared.fault.HamtFault.TheVariants as F
use Rattle.std.proofs.lemmas.List.{length-map}
use Rattle.ild_bulk_walker.specs.Fetching.{IsRefused, OnlyGets}
use Rattle.ild_bulk_walker.specs.Todo.{Todo, give, enter, leave, node_todo, fits, StillGives}
use Rattle.ild_node_slots.proofs.Shapes.{levels_some}
use Rattle.ild_bulk_walker.specs.Ahead.{Ahead, StillAhead, walker_todo, walker_path, KeepsAhead, KeepsWhere, IsCause, IsNew, BeginsWith, NextAnswer, Nexts, Counts}
use Rattle.ild_bulk_walker.specs.inside.Stepping.{walker_here, IsFaultAt, IsTrieFault, NothingTold, SameWhere, Leaves, Enters, EnterAnswer, IsPast, IsUnchanged, TakesRow, Gives, GiveAnswer, GivesNext, IsReady, AnyRow, ComesNext}
use Rattle.ild_bulk_walker.proofs.Opening.{root-on, root-off}
use Rattle.ild_bulk_walker.proofs.Walking.{unchanged-still}
use Rattle.ild_bulk_walker.specs.Standing.{KeepsOn, RowStands}
use Rattle.ild_bulk_walker.proofs.Keeping.{StaysOn, FaultOn, keeps-more, few-keeps, stray-keeps, taken-keeps, taken-row, memory-keeps}
use Rattle.ild_bulk_walker.proofs.Spending.{Passes, passes-itself, spends-none, spends-more, taken-passes, taken-nodes, unchanged-nodes}
use Rattle.ild_bulk_walker.proofs.Resuming.{only-reads, read-nothing, read-both, read-from, where-both, where-itself, where-told}
use Rattle.ild_bulk_walker.specs.Reads.{HasRead, fails_of}
use Rattle.ild_bulk_walker.specs.declared.row.Row.{Row}
use Rattle.ild_bulk_walker.specs.declared.step.Child.{Child}
use Rattle.ild_bulk_walker.specs.declared.walker.Walker.{Walker}

-- ---- entering again

pub rose-later : (a b c : ℕ) → a ≤ b → Rose b c → Rose a c
rose-later a b c le rose = omega arith

refused-before : (p : HamtShape) (m n o : Moment) (id : List ℕ) (why : BlockWhy) → Later m n → n.blocks ≡ m.blocks → IsRefused p n id why o → IsRefused p m id why o
refused-before p m n o id Missing later blocks r = (subst (λ b. IfTold b (λ bs. block_at bs id ≡ None)) blocks r.0, rose-later m.lacks n.lacks o.lacks later.lacks r.1)
refused-before p m n o id (Cbor fault) later blocks r = record { block = r.block; at = record { named = r.at.named; held = subst (λ b. IfTold b (λ bs. block_at bs id ≡ Some r.block)) blocks r.at.held }; got = r.got; wrong = r.wrong }
refused-before p m n o id (NoNode why) later blocks r = record { block = r.block; at = record { named = r.at.named; held = subst (λ b. IfTold b (λ bs. block_at bs id ≡ Some r.block)) blocks r.at.held }; got = r.got; wrong = r.wrong }

pub cause-later : (p : HamtShape) (m n o : Moment) (e : HamtFault) → Later m n → n.blocks ≡ m.blocks → IsCause p n e o → IsCause p m e o
cause-later p m n o (F.Block id why) later blocks c = ⊎_elim (λ r. inl (refused-before p m n o id.0 why later blocks r)) (λ s. inr s) c
cause-later p m n o F.Exhausted later blocks c = absurd c
cause-later p m n o F.Store later blocks c = absurd c
cause-later p m n o (F.Clash id kept new) later blocks c = absurd c
cause-later p m n o F.Size later blocks c = absurd c
cause-later p m n o F.NoKey later blocks c = absurd c
cause-later p m n o F.Memory later blocks c = absurd c

nothing-told : (p : HamtShape) (most : ℕ) (m n : Moment) (u v : Walker) → Enters p most m u (Ok tt) v n → NothingTold p n v → NothingTold p m u
nothing-told p most m n u v x none = λ h held es told s. none h held es (x.only.blocks ∙ told) ((where-told p 0 m n u v x.read h held es told).0 s)

only-more : (a b c : ℕ) (m n o : Moment) → OnlyGets a m n → OnlyGets b n o → a + b ≤ c → OnlyGets c m o
only-more a b c m n o x y le = record { later = Later-trans m n o x.later y.later; blocks = y.blocks ∙ x.blocks; given = y.given ∙ x.given; puts = y.puts ∙ x.puts; gets = let s = x.gets in let q = y.gets in omega arith }

only-most : (a c : ℕ) (m n : Moment) → OnlyGets a m n → a ≤ c → OnlyGets c m n
only-most a c m n x le = record { later = x.later; blocks = x.blocks; given = x.given; puts = x.puts; gets = let q = x.gets in omega arith }

no-fail : (n : ℕ) → 0 + n ≡ n
no-fail n = omega arith

pub enters-more : (p : HamtShape) (a b c : ℕ) (m n o : Moment) (u v w : Walker) (r : Result (Unit {0}) HamtFault) → a + b ≤ c → Enters p a m u (Ok tt) v n → Enters p b n v r w o → Enters p c m u r w o
enters-more p a b c m n o u v w r le x y = record {
  answer = by r y.answer;
  given = y.given ∙ x.given;
  short = y.short;
  only = only-more a b c m n o x.only y.only le;
  on = λ h. keeps-more p h m.blocks m.lacks n.lacks o.lacks u v w r x.only.later.lacks (λ root at on. (x.on h root at on).0) (subst (λ told. KeepsOn p h told n.lacks o.lacks v r w) x.only.blocks (y.on h));
  reads = λ held told. spends-more p held m.gets n.gets o.gets u v w r (x.reads held told) (y.reads held (x.only.blocks ∙ told));
  read = read-both p (λ blocks. SameWhere p blocks u v) (λ blocks. SameWhere p blocks v w) (λ blocks. SameWhere p blocks u w) (fails_of r) m n o u v w x.only.blocks (only-reads b n o y.only) (where-both p u v w) 0 (fails_of r) (no-fail (fails_of r)) x.read y.read;
}
  where
    failed : (e : HamtFault) → IsCause p n e o × NothingTold p n v → IsCause p m e o × NothingTold p m u
    failed e q = (cause-later p m n o e x.only.later x.only.blocks q.0, nothing-told p a m n u v x q.1)

    by : (r : Result (Unit {0}) HamtFault) → EnterAnswer p n v r w o → EnterAnswer p m u r w o
    by (Ok t) q = q
    by (Err F.Store) q = rose-later m.faults n.faults o.faults x.only.later.faults q
    by (Err F.Memory) q = tt
    by (Err F.Exhausted) q = failed F.Exhausted q
    by (Err (F.Block id why)) q = failed (F.Block id why) q
    by (Err (F.Clash id kept new)) q = failed (F.Clash id kept new) q
    by (Err F.Size) q = failed F.Size q
    by (Err F.NoKey) q = failed F.NoKey q

-- before the first child
pub enters-none : (p : HamtShape) (m : Moment) (v : Walker) → IsPast v.given (walker_todo v) → length (walker_path v) < trie_levels p → Enters p (length (walker_path v)) m v (Ok tt) v m
enters-none p m v past short = record {
  answer = past;
  given = refl;
  short = short;
  only = only-most 0 (length (walker_path v)) m m (record { later = Later-refl m; blocks = refl; given = refl; puts = refl; gets = omega arith }) (omega arith);
  on = λ h root at on. (on, tt);
  reads = λ held told. passes-itself p held m.gets v;
  read = read-nothing p (λ blocks. SameWhere p blocks v v) 0 m m v v (omega arith) (λ held n l. l) (where-itself p v);
}

pub enters-most : (p : HamtShape) (a c : ℕ) (m n : Moment) (u w : Walker) (r : Result (Unit {0}) HamtFault) → a ≤ c → Enters p a m u r w n → Enters p c m u r w n
enters-most p a c m n u w r le x = record { answer = x.answer; given = x.given; short = x.short; only = only-most a c m n x.only le; on = x.on; reads = x.reads; read = x.read }

-- ---- giving

pub taken : (p : HamtShape) (h : List ℕ → List ℕ) (v w : Walker) (g : GivesNext v) (r : Result (Option Row) HamtFault) → fits h p (walker_path v) g.index g.key ≡ true → TakesRow v r w → Gives h p v r w
taken p h v w g (Ok (Some row)) fit t = record {
  answer = record {
    value = t.value;
    spelled = t.spelled;
    still = λ held es. (
      λ a.
          let s = subst (λ ts. StillGives h p held ts (walker_path v) v.given es) t.was a.gives in
          record { rest = s.0; is = s.1; still = record { gives = there held s.0 s.3 } },
      λ b.
          record {
            gives = subst (λ ts. StillGives h p held ts (walker_path v) v.given es) (sym t.was) (b.rest, b.is, fit-same, back held b.rest b.still.gives);
          },
    );
  };
  counts = (t.given, t.most);
  path = t.path;
  on = λ told lacks. taken-keeps p h told lacks v w row t;
  row = λ told. taken-row p told v w row t;
  reads = λ held gets. taken-passes p held gets v w row t;
  nodes = taken-nodes p v w row t;
}
  where
    heads : give g.key g.value g.index ∷ g.rest ≡ give row.key t.value t.index ∷ t.rest
    heads = sym g.is ∙ t.was

    fit-same : fits h p (walker_path v) t.index row.key ≡ true
    fit-same = let k : g.key ≡ row.key = let e = heads in cc in let i : g.index ≡ t.index = let e = heads in cc in (λ j. fits h p (walker_path v) (sym i j) (sym k j)) ∙ fit

    there : (held : List (List ℕ)) (rest : List (List ℕ × Data)) → StillGives h p held t.rest (walker_path v) (v.given + 1) rest → StillGives h p held (walker_todo w) (walker_path w) w.given rest
    there held rest s = subst (λ n. StillGives h p held (walker_todo w) (walker_path w) n rest) (sym t.given)
        (subst (λ q. StillGives h p held (walker_todo w) q (v.given + 1) rest) (sym t.path) (subst (λ ts. StillGives h p held ts (walker_path v) (v.given + 1) rest) (sym t.todo) s))

    back : (held : List (List ℕ)) (rest : List (List ℕ × Data)) → StillGives h p held (walker_todo w) (walker_path w) w.given rest → StillGives h p held t.rest (walker_path v) (v.given + 1) rest
    back held rest s = subst (λ ts. StillGives h p held ts (walker_path v) (v.given + 1) rest) t.todo
        (subst (λ q. StillGives h p held (walker_todo w) q (v.given + 1) rest) t.path (subst (λ n. StillGives h p held (walker_todo w) (walker_path w) n rest) t.given s))
taken p h v w g (Ok None) fit t = absurd t
taken p h v w g (Err F.Memory) fit t = record { answer = t; counts = t.given; path = t.path; on = λ told lacks. memory-keeps p h told lacks lacks v w t; row = λ told. tt; reads = λ held gets. spends-none p held gets v; nodes = unchanged-nodes p v w t }
taken p h v w g (Err F.Exhausted) fit t = absurd t
taken p h v w g (Err (F.Block id why)) fit t = absurd t
taken p h v w g (Err F.Store) fit t = absurd t
taken p h v w g (Err (F.Clash id kept new)) fit t = absurd t
taken p h v w g (Err F.Size) fit t = absurd t
taken p h v w g (Err F.NoKey) fit t = absurd t

unchanged : (v : Walker) → IsUnchanged v v
unchanged v = record { todo = refl; path = refl; given = refl; children = refl; at = refl }

pub gives-end : (p : HamtShape) (h : List ℕ → List ℕ) (v : Walker) → walker_todo v ≡ [] → Gives h p v (Ok None) v
gives-end p h v none = record {
  answer = λ held es. (
    λ a. subst (λ ts. StillGives h p held ts (walker_path v) v.given es) none a.gives,
    λ e. record { gives = subst (λ ts. StillGives h p held ts (walker_path v) v.given es) (sym none) e },
  );
  counts = refl;
  path = refl;
  on = λ told lacks root at on. (on, tt);
  row = λ told. tt;
  reads = λ held gets. passes-itself p held gets v;
  nodes = λ held n l. l;
}

pub gives-misfit : (p : HamtShape) (h : List ℕ → List ℕ) (v : Walker) (k : List ℕ) (d : Data) (i : ℕ) (rest : List Todo) (e : HamtFault) → walker_todo v ≡ give k d i ∷ rest → fits h p (walker_path v) i k ≡ false → IsTrieFault e → IsFaultAt (walker_here v) e → Gives h p v (Err e) v
gives-misfit p h v k d i rest e is misfit fault here =
    record { answer = by e fault; counts = refl; path = refl; on = λ told lacks. stray-keeps p h told lacks v k d i rest e is misfit fault here; row = λ told. tt; reads = λ held gets. spends-none p held gets v; nodes = λ held n l. l }
  where
    none : (held : List (List ℕ)) (es : List (List ℕ × Data)) → StillAhead h p held v es → ⊥
    none held es a = let s = subst (λ ts. StillGives h p held ts (walker_path v) v.given es) is a.gives in false≢true (sym misfit ∙ s.2)

    by : (e : HamtFault) → IsTrieFault e → GiveAnswer h p v (Err e) v
    by (F.Block id why) f = (f, none, unchanged v)
    by F.Exhausted f = absurd f
    by F.Store f = absurd f
    by (F.Clash id kept new) f = absurd f
    by F.Size f = absurd f
    by F.NoKey f = absurd f
    by F.Memory f = absurd f

-- a node of which nothing was given
pub gives-leave : (p : HamtShape) (h : List ℕ → List ℕ) (v : Walker) (before : ℕ) (rest : List Todo) (e : HamtFault) → walker_todo v ≡ leave before ∷ rest → IsReady v.given (walker_todo v) → IsTrieFault e → IsFaultAt (walker_here v) e → Gives h p v (Err e) v
gives-leave p h v before rest e is ready fault here =
    record { answer = by e fault; counts = refl; path = refl; on = λ told lacks. few-keeps p h told lacks v before rest e is few fault here; row = λ told. tt; reads = λ held gets. spends-none p held gets v; nodes = λ held n l. l }
  where
    none : (held : List (List ℕ)) (es : List (List ℕ × Data)) → StillAhead h p held v es → ⊥
    none held es a =
        let s = subst (λ ts. StillGives h p held ts (walker_path v) v.given es) is a.gives in
        let le : v.given ≤ before = subst (IsReady v.given) is ready in
        let many = s.3 in
        omega arith

    few : v.given - before ≤ p.bucket
    few = let le : v.given ≤ before = subst (IsReady v.given) is ready in omega arith

    by : (e : HamtFault) → IsTrieFault e → GiveAnswer h p v (Err e) v
    by (F.Block id why) f = (f, none, unchanged v)
    by F.Exhausted f = absurd f
    by F.Store f = absurd f
    by (F.Clash id kept new) f = absurd f
    by F.Size f = absurd f
    by F.NoKey f = absurd f
    by F.Memory f = absurd f

pub not-enter : (v : Walker) (id : List ℕ) (i : ℕ) (rest : List Todo) → walker_todo v ≡ enter id i ∷ rest → IsReady v.given (walker_todo v) → ⊥
not-enter v id i rest is ready = subst (IsReady v.given) is ready

-- ---- the whole call

-- what still is to be given before and after, as what is ahead
still-both : (p : HamtShape) (h : List ℕ → List ℕ) (m : Moment) (u v : Walker) → length (walker_path u) < trie_levels p → length (walker_path v) < trie_levels p
    → ((held : List (List ℕ)) (es : List (List ℕ × Data)) → m.blocks ≡ Some held → StillAhead h p held u es ↔ StillAhead h p held v es) → KeepsAhead h p m u v
still-both p h m u v su sv same = λ held es told. (
  λ a. record { short = sv; still = (same held es told).0 a.still },
  λ b. record { short = su; still = (same held es told).1 b.still },
)

cause-trie : (p : HamtShape) (m n : Moment) (e : HamtFault) → IsTrieFault e → IsCause p m e n
cause-trie p m n (F.Block id why) f = inr f
cause-trie p m n F.Exhausted f = absurd f
cause-trie p m n F.Store f = absurd f
cause-trie p m n (F.Clash id kept new) f = absurd f
cause-trie p m n F.Size f = absurd f
cause-trie p m n F.NoKey f = absurd f
cause-trie p m n F.Memory f = absurd f

-- an answer that a block is at fault
pub faulty : (p : HamtShape) (h : List ℕ → List ℕ) (m n : Moment) (v w : Walker) (e : HamtFault) → IsCause p m e n → ((held : List (List ℕ)) (es : List (List ℕ × Data)) → m.blocks ≡ Some held → Ahead h p held v es → ⊥) → KeepsAhead h p m v w → NextAnswer h p m v (Err e) w n
faulty p h m n v w (F.Block id why) cause none same = (cause, none, same)
faulty p h m n v w F.Exhausted cause none same = absurd cause
faulty p h m n v w F.Store cause none same = absurd cause
faulty p h m n v w (F.Clash id kept new) cause none same = absurd cause
faulty p h m n v w F.Size cause none same = absurd cause
faulty p h m n v w F.NoKey cause none same = absurd cause
faulty p h m n v w F.Memory cause none same = absurd cause

no-gets : (p : HamtShape) (m : Moment) → OnlyGets (trie_levels p) m m
no-gets p m = record { later = Later-refl m; blocks = refl; given = refl; puts = refl; gets = omega arith }

ahead-of : (p : HamtShape) (h : List ℕ → List ℕ) (held : List (List ℕ)) (es : List (List ℕ × Data)) (u v : Walker) → length (walker_path u) < trie_levels p → length (walker_path v) < trie_levels p → StillAhead h p held u es ↔ StillAhead h p held v es → Ahead h p held u es ↔ Ahead h p held v es
ahead-of p h held es u v su sv same = (λ a. record { short = sv; still = same.0 a.still }, λ b. record { short = su; still = same.1 b.still })

both-ways : {A B C : Type 0} → A ↔ B → B ↔ C → A ↔ C
both-ways s q = (λ a. q.0 (s.0 a), λ c. s.1 (q.1 c))

-- a walker whose path is too long, which no call makes
pub next-deep : (p : HamtShape) (h : List ℕ → List ℕ) (m : Moment) (v : Walker) (e : HamtFault) → trie_levels p ≤ length (walker_path v) → IsTrieFault e → Nexts h p m v (Err e) v m
next-deep p h m v e deep fault = record {
  answer = faulty p h m m v v e (cause-trie p m m e fault) (λ held es told a. let short = a.short in omega arith) (λ held es told. (λ a. a, λ a. a));
  counts = refl;
  only = no-gets p m;
  on = λ root at on. absurd (let short = on.short in let seen = length-map v.path.items (λ (d : Child). d.index) in omega arith);
  row = tt;
  reads = λ held told. spends-none p held m.gets v;
  read = read-nothing p (λ blocks. KeepsWhere h p blocks v v) 1 m m v v (omega arith) (λ held n l. l) (λ held es all. (λ a. a, λ a. a));
}

pub next-left : (p : HamtShape) (h : List ℕ → List ℕ) (m : Moment) (u v : Walker) (e : HamtFault) → length (walker_path u) < trie_levels p → Leaves p u (Err e) v → Nexts h p m u (Err e) v m
next-left p h m u v e short l = record {
  answer = faulty p h m m u v e (cause-trie p m m e l.answer.0) (λ held es told a. l.answer.1 h held es a.still)
      (still-both p h m u v short (let q = l.path in omega arith) (λ held es told. l.same h held es));
  counts = l.given;
  only = no-gets p m;
  on = λ root at on. l.on h m.blocks m.lacks root at on;
  row = tt;
  reads = λ held told. spends-none p held m.gets u;
  read = read-nothing p (λ blocks. KeepsWhere h p blocks u v) 1 m m u v (omega arith) l.nodes (λ held es all. ahead-of p h held es u v short (let q = l.path in omega arith) (l.same h held es));
}

-- once nodes are left and children entered the same is ahead, where the store tells what it holds
same-of : (p : HamtShape) (h : List ℕ → List ℕ) (m n : Moment) (u v w : Walker) (r : Result (Unit {0}) HamtFault) → Leaves p u (Ok tt) v → Enters p (trie_levels p) m v r w n → (held : List (List ℕ)) (es : List (List ℕ × Data)) → m.blocks ≡ Some held → StillAhead h p held u es ↔ StillAhead h p held w es
same-of p h m n u v w r l e held es told = both-ways (l.same h held es) (where-told p (fails_of r) m n v w e.read h held es told)

pub next-entered : (p : HamtShape) (h : List ℕ → List ℕ) (m n : Moment) (u v w : Walker) (e : HamtFault) → length (walker_path u) < trie_levels p → Leaves p u (Ok tt) v → Enters p (trie_levels p) m v (Err e) w n → Nexts h p m u (Err e) w n
next-entered p h m n u v w e short l x = record { answer = by e x.answer; counts = x.given ∙ l.given; only = x.only; on = keeps; row = tt; read = read; reads = λ held told many nodes. let s = l.reads held m.gets many nodes in let q = x.reads held told s.left s.nodes in let one = s.gets in omega arith }
  where
    read : HasRead p (λ blocks. KeepsWhere h p blocks u w) 1 m u w n
    read = record {
      blocks = x.read.blocks;
      bytes = x.read.bytes;
      nodes = x.read.nodes;
      got = x.read.got;
      held = x.read.held;
      gets = x.read.gets;
      left = λ held k all n. x.read.left held k all (l.nodes held k n);
      says = λ held es all. ahead-of p h held es u w short x.short (both-ways (l.same h held es) (x.read.says h held es all));
    }

    keeps : FaultOn p h m.blocks m.lacks n.lacks u e w
    keeps = λ root at on. let q = x.on h root at (l.on h m.blocks m.lacks root at on).0 in (q.0, q.1)

    same : KeepsAhead h p m u w
    same = still-both p h m u w short x.short (same-of p h m n u v w (Err e) l x)

    failed : (e : HamtFault) → IsCause p m e n × NothingTold p m v → NextAnswer h p m u (Err e) w n
    failed e q = faulty p h m n u w e q.0 (λ held es told a. q.1 h held es told ((l.same h held es).0 a.still)) same

    by : (e : HamtFault) → EnterAnswer p m v (Err e) w n → NextAnswer h p m u (Err e) w n
    by F.Store q = (q, same)
    by F.Memory q = same
    by F.Exhausted q = failed F.Exhausted q
    by (F.Block id why) q = failed (F.Block id why) q
    by (F.Clash id kept new) q = failed (F.Clash id kept new) q
    by F.Size q = failed F.Size q
    by F.NoKey q = failed F.NoKey q

pub next-given : (p : HamtShape) (h : List ℕ → List ℕ) (m n : Moment) (u v w x : Walker) (r : Result (Option Row) HamtFault) → length (walker_path u) < trie_levels p → Leaves p u (Ok tt) v → Enters p (trie_levels p) m v (Ok tt) w n → Gives h p w r x → Nexts h p m u r x n
next-given p h m n u v w x r short l e g = record {
  answer = by r g.answer;
  counts = counted r g.counts;
  only = e.only;
  on = keeps-more p h m.blocks m.lacks n.lacks n.lacks u w x r e.only.later.lacks begins (g.on m.blocks n.lacks);
  row = stands r (g.row m.blocks);
  reads = λ held told. spends-more p held m.gets n.gets n.gets u w x r (λ many nodes. both held told many nodes) (g.reads held n.gets);
  read = read;
}
  where
    begins : StaysOn p m.blocks u w
    begins = λ root at on. (e.on h root at (l.on h m.blocks m.lacks root at on).0).0

    both : (held : List (List ℕ)) → m.blocks ≡ Some held → Passes p held m.gets n.gets u w
    both held told = spends-more p held m.gets m.gets n.gets u v w (Ok (tt {0})) (l.reads held m.gets) (e.reads held told)

    stands : (r : Result (Option Row) HamtFault) → RowStands p m.blocks w r → RowStands p m.blocks u r
    stands (Ok (Some row)) s = λ root at on. s root at (begins root at on)
    stands (Ok None) s = tt
    stands (Err f) s = tt

    counted : (r : Result (Option Row) HamtFault) → Counts w r x → Counts u r x
    counted (Ok (Some row)) c = (c.0 ∙ ap (λ n. n + 1) (e.given ∙ l.given), c.1)
    counted (Ok None) c = c ∙ (e.given ∙ l.given)
    counted (Err f) c = c ∙ (e.given ∙ l.given)

    same : (held : List (List ℕ)) (es : List (List ℕ × Data)) → m.blocks ≡ Some held → StillAhead h p held u es ↔ StillAhead h p held w es
    same = same-of p h m n u v w (Ok tt) l e

    same-where : (held : List (List ℕ)) (es : List (List ℕ × Data)) → AreHeld e.read.blocks held → StillAhead h p held u es ↔ StillAhead h p held w es
    same-where held es all = both-ways (l.same h held es) (e.read.says h held es all)

    from : (P : List (List ℕ) → Type 0) → ((held : List (List ℕ)) → AreHeld e.read.blocks held → P held) → FromBlocks n P
    from P so = read-from p (λ blocks. SameWhere p blocks v w) P 0 m n v w e.read so

    short-x : length (walker_path x) < trie_levels p
    short-x = subst (λ (q : List ℕ). length q < trie_levels p) (sym g.path) e.short

    where-kept : IsUnchanged w x → KeepsWhere h p e.read.blocks u x
    where-kept c = λ held es all. ahead-of p h held es u x short short-x (both-ways (same-where held es all) (unchanged-still p w x c h held es))

    says : (r : Result (Option Row) HamtFault) → GiveAnswer h p w r x → IfErr r (λ f. KeepsWhere h p e.read.blocks u x)
    says (Ok row) q = tt
    says (Err F.Memory) q = where-kept q
    says (Err F.Store) q = absurd q.0
    says (Err F.Exhausted) q = where-kept q.2
    says (Err (F.Block id why)) q = where-kept q.2
    says (Err (F.Clash id kept new)) q = where-kept q.2
    says (Err F.Size) q = where-kept q.2
    says (Err F.NoKey) q = where-kept q.2

    besides : (a b c d : ℕ) → a ≤ b + (c + 0) → a ≤ b + (c + d)
    besides a b c d le = omega arith

    read : HasRead p (λ blocks. IfErr r (λ f. KeepsWhere h p blocks u x)) (fails_of r) m u x n
    read = record {
      blocks = e.read.blocks;
      bytes = e.read.bytes;
      nodes = e.read.nodes;
      got = e.read.got;
      held = e.read.held;
      gets = besides n.gets m.gets (length e.read.blocks) (fails_of r) e.read.gets;
      left = λ held k all many. let q = e.read.left held k all (l.nodes held k many) in (q.0, q.1, g.nodes held q.0 q.2);
      says = says r g.answer;
    }

    kept : IsUnchanged w x → KeepsAhead h p m u x
    kept c = still-both p h m u x short short-x (λ held es told. both-ways (same held es told) (unchanged-still p w x c h held es))

    failed : (e : HamtFault) → IsTrieFault e × ((held : List (List ℕ)) (es : List (List ℕ × Data)) → StillAhead h p held w es → ⊥) × IsUnchanged w x → NextAnswer h p m u (Err e) x n
    failed e q = faulty p h m n u x e (cause-trie p m n e q.0) (λ held es told a. q.1 held es ((same held es told).0 a.still)) (kept q.2)

    by : (r : Result (Option Row) HamtFault) → GiveAnswer h p w r x → NextAnswer h p m u r x n
    by (Ok (Some row)) q = record {
      value = q.value;
      spelled = q.spelled;
      ahead = from (λ held. (es : List (List ℕ × Data)) → Ahead h p held u es ↔ BeginsWith h p held row.key q.value x es) (λ held all es. (
        λ a. let b = (q.still held es).0 ((same-where held es all).0 a.still) in record { rest = b.rest; is = b.is; ahead = record { short = short-x; still = b.still } },
        λ b. record { short = short; still = (same-where held es all).1 ((q.still held es).1 (record { rest = b.rest; is = b.is; still = b.ahead.still })) },
      ));
    }
    by (Ok None) q = from (λ held. (es : List (List ℕ × Data)) → Ahead h p held u es ↔ (es ≡ [])) (λ held all es. (
      λ a. (q held es).0 ((same-where held es all).0 a.still),
      λ is. record { short = short; still = (same-where held es all).1 ((q held es).1 is) },
    ))
    by (Err F.Memory) q = kept q
    by (Err F.Store) q = absurd q.0
    by (Err F.Exhausted) q = failed F.Exhausted q
    by (Err (F.Block id why)) q = failed (F.Block id why) q
    by (Err (F.Clash id kept new)) q = failed (F.Clash id kept new) q
    by (Err F.Size) q = failed F.Size q
    by (Err F.NoKey) q = failed F.NoKey q

-- ---- what comes next

pub comes : (p : HamtShape) (m n : Moment) (u v w : Walker) → length (walker_path u) < trie_levels p → Leaves p u (Ok (tt {0})) v → Enters p (trie_levels p) m v (Ok (tt {0})) w n → ComesNext p m u w n
comes p m n u v w short l e = record { between = v; short = short; left = l; entered = e }

pub given-next : (p : HamtShape) (h : List ℕ → List ℕ) (m n : Moment) (u w x : Walker) (r : Result (Option Row) HamtFault) → ComesNext p m u w n → Gives h p w r x → Nexts h p m u r x n
given-next p h m n u w x r c g = next-given p h m n u c.between w x r c.short c.left c.entered g

pub any-next : (p : HamtShape) (h : List ℕ → List ℕ) (m n : Moment) (u w x : Walker) (r : Result Bool HamtFault) → ComesNext p m u w n → AnyRow (λ r. Gives h p w r x) r → AnyRow (λ r. Nexts h p m u r x n) r
any-next p h m n u w x (Ok true) c g = (g.0, given-next p h m n u w x (Ok (Some g.0)) c g.1)
any-next p h m n u w x (Ok false) c g = given-next p h m n u w x (Ok None) c g
any-next p h m n u w x (Err e) c g = given-next p h m n u w x (Err e) c g

-- ---- a new walker

pub new-ahead : (p : HamtShape) (slots : List TrieSlot) (w : Walker) → walker_todo w ≡ node_todo 0 slots → walker_path w ≡ [] → IsNew p slots w
new-ahead p slots w todo path = λ h held es. (
  λ a. root-off h p held 0 w.given slots es
      (subst (λ q. StillGives h p held (node_todo 0 slots) q w.given es) path (subst (λ ts. StillGives h p held ts (walker_path w) w.given es) todo a.still.gives)),
  λ r. record {
    short = subst (λ (q : List ℕ). length q < trie_levels p) (sym path) (let some = levels_some p in omega (arith, some));
    still = record {
      gives = subst (λ ts. StillGives h p held ts (walker_path w) w.given es) (sym todo)
          (subst (λ q. StillGives h p held (node_todo 0 slots) q w.given es) (sym path) (root-on h p held 0 w.given slots es r));
    };
  },
)
