-- Runs without faults and collisions are runs on plain values, and what a run asks of the store.
use Rattle.std.proofs.Common.{◌≡◌, ◌≢◌, ◌⊎◌, ℕ, ◌+◌, ◌≤◌, List, [], ◌∷◌, Option, Some, None, refl, sym, ap, ◌∙◌, subst, inl, inr, arith}
use Rattle.std.specs.Prelude.{IfSome, IsSome, is_some, Contains}
use Rattle.std.specs.List.{cons_option}
use Rattle.ild_data.specs.Spell.{id_of}
use Rattle.ild_edges.specs.Count.{Rose, bumped}
use Rattle.ild_edges.specs.Gained.{AreHeld, CameFrom}
use Rattle.ild_edges.specs.Store.{Moment, Later, Keeps, block_at}
use Rattle.ild_edges.specs.Told.{IfTold, BothTold}
use Rattle.ild_edges.proofs.Later.{Later-refl, Later-trans}
use Rattle.ild_script.specs.declared.reply.No.{No}
use Rattle.ild_script.specs.declared.reply.No.TheVariants as N
use Rattle.ild_script.specs.declared.reply.Reply.{Reply}
use Rattle.ild_script.specs.declared.reply.Reply.TheVariants as R
use Rattle.ild_script_session.specs.Batch.{beside, together, due_at, puts_at}
use Rattle.ild_script_session.specs.Session.{State, Stage, Due, Meaning}
use Rattle.ild_script_session.specs.Step.{Holds, Collides, HasCause, IsExcused, Carries, StaysTogether}
use Rattle.ild_script_session.specs.Run.{Run, most_gets, most_puts}
use Rattle.ild_script_session.specs.Plain.{PlainRun, MayPut, MayBegin, AreAllApart}

pub all_keeps : (was now bs : List (List ℕ)) → Keeps was now → AreHeld bs was → AreHeld bs now
all_keeps was now [] keeps held = tt
all_keeps was now (b ∷ bs) keeps held = (keeps (id_of b) b held.0, all_keeps was now bs keeps held.1)

hold_all : (bs : List (List ℕ)) (was now : Option (List (List ℕ))) → BothTold was now Keeps → IfTold was (λ held. AreHeld bs held) → IfTold now (λ held. AreHeld bs held)
hold_all bs None None keeps held = tt
hold_all bs None (Some n) keeps held = absurd keeps
hold_all bs (Some m) None keeps held = absurd keeps
hold_all bs (Some m) (Some n) keeps held = all_keeps m n bs keeps held

-- blocks that are held stay held
pub holds_all_later : (m n : Moment) (bs : List (List ℕ)) → Later m n → Holds m bs → Holds n bs
holds_all_later m n bs later held = hold_all bs m.blocks n.blocks later.keeps held

told_keeps : (was now : Option (List (List ℕ))) → BothTold was now Keeps → was ≢ None → now ≢ None
told_keeps None now keeps told e = told refl
told_keeps (Some m) None keeps told e = keeps
told_keeps (Some m) (Some n) keeps told e = cc

-- a store that tells what it holds goes on telling
pub told_later : (m n : Moment) → Later m n → m.blocks ≢ None → n.blocks ≢ None
told_later m n later told = told_keeps m.blocks n.blocks later.keeps told

is_memory : (m : Moment) (new : List (List ℕ)) (refusal : No) (n : Moment) → m.blocks ≢ None → (Rose m.faults n.faults → ⊥) → (Collides n new → ⊥) → HasCause m new refusal n → refusal ≡ N.Memory
is_memory m new N.Store n told calm apart cause = absurd (calm cause)
is_memory m new N.Clash n told calm apart cause = absurd (apart cause)
is_memory m new N.Block n told calm apart cause = absurd (told cause.untold)
is_memory m new N.Memory n told calm apart cause = refl
is_memory m new N.Line n told calm apart cause = absurd cause
is_memory m new N.Path n told calm apart cause = absurd cause
is_memory m new N.Json n told calm apart cause = absurd cause
is_memory m new N.Mismatch n told calm apart cause = absurd cause
is_memory m new N.Delimiter n told calm apart cause = absurd cause
is_memory m new N.Hole n told calm apart cause = absurd cause
is_memory m new N.Depth n told calm apart cause = absurd cause
is_memory m new N.Exhausted n told calm apart cause = absurd cause
is_memory m new N.Size n told calm apart cause = absurd cause
is_memory m new N.Reserved n told calm apart cause = absurd cause
is_memory m new N.Batch n told calm apart cause = absurd cause

-- where the store tells, and no fault or collision stands in the way, neither in it nor in what it holds together with a batch, a line is
-- excused by want of memory alone
only_memory : (m : Moment) (new : List (List ℕ)) (reply : Option Reply) (n both : Moment) → m.blocks ≢ None → (Rose m.faults n.faults → ⊥) → both.faults ≡ n.faults → (Collides n new → ⊥) → (Collides both new → ⊥)
    → IsExcused m new reply n both → reply ≡ Some (R.No N.Memory)
only_memory m new None n both told calm same apart apart_both excused = absurd excused
only_memory m new (Some (R.Ok json)) n both told calm same apart apart_both excused = absurd excused
only_memory m new (Some (R.Root id)) n both told calm same apart apart_both excused = absurd excused
only_memory m new (Some (R.No refusal)) n both told calm same apart apart_both (inl cause) = ap (λ no. Some (R.No no)) (is_memory m new refusal n told calm apart cause)
only_memory m new (Some (R.No refusal)) n both told calm same apart apart_both (inr cause) =
    ap (λ no. Some (R.No no)) (is_memory m new refusal both told (λ rose. calm (subst (λ (f : ℕ). Rose m.faults f) same rose)) apart_both cause)

-- a line that has a reply is due one
due_some : (due reply : Option Reply) → (due ≡ None → reply ≡ None) → reply ≡ Some (R.No N.Memory) → IsSome due
due_some (Some r) reply speaks is = refl
due_some None reply speaks is = let e : None ≡ Some (R.No N.Memory) = sym (speaks refl) ∙ is in absurd cc

-- ---- what a batch holds

beside_faults : {V : Type 0} (o : Option V) (own : List (List ℕ)) (n : Moment) → (beside o own n).faults ≡ n.faults
beside_faults None own n = refl
beside_faults (Some v) own n = refl

-- outside a batch, what is held together is what the store holds
alone : {V : Type 0} (n : Moment) (t : Stage V) → t.state.begun ≡ None → together n t ≡ n
alone n t out = ap (λ o. beside o t.own n) out

none_begun : {V : Type 0} (o : Option V) (P : Type 0) → o ≡ None → IsSome o → P
none_begun None P none some = absurd cc
none_begun (Some v) P none some = absurd cc

-- what is held together is held by the store; or a batch may have been begun, and it may come
abbrev IsBacked : {V : Type 0} → Type 0 → (List ℕ → Type 0) → Moment → Stage V → Type 0
IsBacked Begins New m s = (b : List ℕ) → Holds (together m s) (b ∷ []) → Holds m (b ∷ []) ⊎ (Begins × New b)

backed_out : {V : Type 0} (Begins : Type 0) (New : List ℕ → Type 0) (m : Moment) (s : Stage V) → s.state.begun ≡ None → IsBacked Begins New m s
backed_out Begins New m s out b held = inl (subst (λ (k : Moment). Holds k (b ∷ [])) (alone m s out) held)

came_before : (b : List ℕ) (adds : List (List ℕ)) (was now : Option (List (List ℕ))) → BothTold was now (CameFrom adds)
    → IfTold now (λ held. AreHeld (b ∷ []) held) → IfTold was (λ held. AreHeld (b ∷ []) held) ⊎ Contains adds b
came_before b adds None None came held = inl tt
came_before b adds None (Some now) came held = absurd came
came_before b adds (Some was) None came held = absurd came
came_before b adds (Some was) (Some now) came held = came_so (came (id_of b) b held.0) where
  came_so : (block_at was (id_of b) ≡ Some b) ⊎ Contains adds b → AreHeld (b ∷ []) was ⊎ Contains adds b
  came_so (inl there) = inl (there, tt)
  came_so (inr new) = inr new

backed_then : {V : Type 0} (Begins : Type 0) (New : List ℕ → Type 0) (m : Moment) (s : Stage V) (due : Due V) (k : Moment) (u : Stage V) → Later m k → (IsSome u.state.begun → Begins) → ((b : List ℕ) → Contains due.adds b → New b)
    → IsBacked Begins New m s → (o : Option V) → u.state.begun ≡ o → IfSome o (λ v. StaysTogether m s due k u) → IsBacked Begins New k u
backed_then Begins New m s due k u later begun may backed None is stays = backed_out Begins New k u is
backed_then Begins New m s due k u later begun may backed (Some v) is stays =
    λ b held. by_coming b (came_before b due.adds (together m s).blocks (together k u).blocks stays.gained.adds held) where
      begins : Begins
      begins = begun (ap is_some is)

      by_backing : (b : List ℕ) → Holds m (b ∷ []) ⊎ (Begins × New b) → Holds k (b ∷ []) ⊎ (Begins × New b)
      by_backing b (inl there) = inl (holds_all_later m k (b ∷ []) later there)
      by_backing b (inr new) = inr new

      by_coming : (b : List ℕ) → Holds (together m s) (b ∷ []) ⊎ Contains due.adds b → Holds k (b ∷ []) ⊎ (Begins × New b)
      by_coming b (inl there) = by_backing b (backed b there)
      by_coming b (inr new) = inr (begins, may b new)

-- a batch is begun by a line, or was before
begun_then : {V : Type 0} (s u next : State V) (Begins P Q : Type 0) → (IsSome next.begun → Begins) → (IsSome s.begun → Begins) → (P × (u ≡ next)) ⊎ (Q × (u ≡ s)) → IsSome u.begun → Begins
begun_then {V} s u next Begins P Q by_next by_s (inl answered) some = by_next (subst (λ (x : State V). IsSome x.begun) answered.1 some)
begun_then {V} s u next Begins P Q by_next by_s (inr excused) some = by_s (subst (λ (x : State V). IsSome x.begun) excused.1 some)

-- none of the blocks that a line may add collides with what is held together
no_clash : {V : Type 0} (Begins : Type 0) (New : List ℕ → Type 0) (k : Moment) (u : Stage V) (n : Moment) → Later k n → AreAllApart n Begins New → (adds : List (List ℕ)) → ((b : List ℕ) → Contains adds b → New b)
    → IsBacked Begins New k u → Collides (together k u) adds → ⊥
no_clash Begins New k u n rest apart adds may backed c = by_backing (backed c.kept c.held) where
  by_backing : Holds k (c.kept ∷ []) ⊎ (Begins × New c.kept) → ⊥
  by_backing (inl there) = apart.held c.kept c.new (may c.new c.among) (holds_all_later k n (c.kept ∷ []) rest there) c.collide
  by_backing (inr new) = apart.inside new.0 c.kept c.new new.1 (may c.new c.among) c.collide

module _ {V : Type 0} (M : Meaning V) where
  pub run_later : (m : Moment) (s : Stage V) (ls : List (List ℕ)) (rs : List Reply) (n : Moment) (t : Stage V) → Run M m s ls rs n t → Later m n
  run_later m s [] rs n t run = subst (λ (k : Moment). Later m k) (sym run.2) (Later-refl m)
  run_later m s (l ∷ ls) rs n t run = Later-trans m run.2 n run.4.later (run_later run.2 run.1 ls run.3 n t run.6)

  -- a run from where the value is carried makes no more gets than its lines do
  pub run_gets : (m : Moment) (s : Stage V) (ls : List (List ℕ)) (rs : List Reply) (n : Moment) (t : Stage V) (run : Run M m s ls rs n t) → Carries M m s → n.gets ≤ m.gets + most_gets M m s ls rs n t run
  run_gets m s [] rs n t run at = let same : n.gets ≡ m.gets = ap (λ (k : Moment). k.gets) run.2 in omega arith
  run_gets m s (l ∷ ls) rs n t run at =
      let step = run.4.replies at in
      let here : (run.2).gets ≤ m.gets + (due_at M m s l).gets = step.gets in
      let rest = run_gets run.2 run.1 ls run.3 n t run.6 (step.carries at) in
      omega (arith, here, rest)

  pub run_puts : (m : Moment) (s : Stage V) (ls : List (List ℕ)) (rs : List Reply) (n : Moment) (t : Stage V) (run : Run M m s ls rs n t) → Carries M m s → n.puts ≤ m.puts + most_puts M m s ls rs n t run
  run_puts m s [] rs n t run at = let same : n.puts ≡ m.puts = ap (λ (k : Moment). k.puts) run.2 in omega arith
  run_puts m s (l ∷ ls) rs n t run at =
      let step = run.4.replies at in
      let here : (run.2).puts ≤ m.puts + puts_at s (due_at M m s l) = step.puts in
      let rest = run_puts run.2 run.1 ls run.3 n t run.6 (step.carries at) in
      omega (arith, here, rest)

  -- the lines' due does not look at what is held
  module _ (due : State V → List ℕ → Due V) (blind : (held : Option (List (List ℕ))) (s : State V) (l : List ℕ) → M.due held s l ≡ due s l) where
    -- a run over a store that tells, without faults and collisions, is one on plain values
    pub plain_run : (m : Moment) (s : Stage V) (ls : List (List ℕ)) (rs : List Reply) (n : Moment) (t : Stage V) (Begins : Type 0) (New : List ℕ → Type 0) → AreAllApart n Begins New
        → (MayBegin due s.state ls → Begins) → ((b : List ℕ) → MayPut due s.state ls b → New b) → (IsSome s.state.begun → Begins) → IsBacked Begins New m s
        → Run M m s ls rs n t → Carries M m s → m.blocks ≢ None → (Rose m.faults n.faults → ⊥) → PlainRun due s.state ls rs t.state
    plain_run m s [] rs n t Begins New apart begins may begun backed run at told calm = (run.0, ap (λ (x : Stage V). x.state) run.1)
    plain_run m s (l ∷ ls) rs n t Begins New apart begins may begun backed run at told calm =
        let k = run.2 in
        let u : Stage V = run.1 in
        let step = run.4.replies at in
        let rest = run_later k u ls run.3 n t run.6 in
        let told_rest = told_later m k step.later told in
        let calm_here : Rose m.faults k.faults → ⊥ = λ rose. calm (let r : bumped m.faults ≤ k.faults = rose in let le = rest.faults in omega arith) in
        let calm_rest : Rose k.faults n.faults → ⊥ = λ rose. calm (let r : bumped k.faults ≤ n.faults = rose in let le = step.later.faults in omega arith) in
        let same : M.due (together m s).blocks s.state l ≡ due s.state l = blind (together m s).blocks s.state l in
        let answered : ((run.0 ≡ (due s.state l).reply) × (u.state ≡ (due s.state l).next)) ⊎ (IsExcused m (due s.state l).adds run.0 k (together k u) × (u.state ≡ s.state)) =
        subst (λ (d : Due V). ((run.0 ≡ d.reply) × (u.state ≡ d.next)) ⊎ (IsExcused m d.adds run.0 k (together k u) × (u.state ≡ s.state))) same step.answered in
        let speaks : (due s.state l).reply ≡ None → run.0 ≡ None = subst (λ (d : Due V). d.reply ≡ None → run.0 ≡ None) same run.4.speaks in
        let begun_rest : IsSome u.state.begun → Begins = begun_then s.state u.state (due s.state l).next Begins _ _ (λ some. begins (inl some)) begun answered in
        let stays : IfSome u.state.begun (λ v. StaysTogether m s (due s.state l) k u) = subst (λ (d : Due V). IfSome u.state.begun (λ v. StaysTogether m s d k u)) same step.stays in
        let backed_rest : IsBacked Begins New k u = backed_then Begins New m s (due s.state l) k u step.later begun_rest (λ b among. may b (inl among)) backed u.state.begun refl stays in
        let apart_here : Collides k (due s.state l).adds → ⊥ = λ c. apart.held c.kept c.new (may c.new (inl c.among)) (holds_all_later k n (c.kept ∷ []) rest c.held) c.collide in
        let apart_both : Collides (together k u) (due s.state l).adds → ⊥ = no_clash Begins New k u n rest apart (due s.state l).adds (λ b among. may b (inl among)) backed_rest in
        by_answer m s.state l ls run.0 u.state k (together k u) run.3 rs n t.state run.5 told calm_here (beside_faults u.state.begun u.own k) apart_here apart_both speaks answered
        (λ (is : u.state ≡ (due s.state l).next).
        plain_run k u ls run.3 n t Begins New apart (λ b. begins (inr (inl (subst (λ (x : State V). MayBegin due x ls) is b)))) (λ b p. may b (inr (inl (subst (λ (x : State V). MayPut due x ls b) is p)))) begun_rest backed_rest
        run.6 (step.carries at) told_rest calm_rest)
        (λ (is : u.state ≡ s.state).
        plain_run k u ls run.3 n t Begins New apart (λ b. begins (inr (inr (subst (λ (x : State V). MayBegin due x ls) is b)))) (λ b p. may b (inr (inr (subst (λ (x : State V). MayPut due x ls b) is p)))) begun_rest backed_rest
        run.6 (step.carries at) told_rest calm_rest)
      where
        by_answer : (m : Moment) (s : State V) (l : List ℕ) (ls : List (List ℕ)) (r : Option Reply) (u : State V) (k both : Moment) (more rs : List Reply) (n : Moment) (t : State V) → rs ≡ cons_option r more
            → m.blocks ≢ None → (Rose m.faults k.faults → ⊥) → both.faults ≡ k.faults → (Collides k (due s l).adds → ⊥) → (Collides both (due s l).adds → ⊥) → ((due s l).reply ≡ None → r ≡ None)
            → ((r ≡ (due s l).reply) × (u ≡ (due s l).next)) ⊎ (IsExcused m (due s l).adds r k both × (u ≡ s))
            → (u ≡ (due s l).next → PlainRun due u ls more t) → (u ≡ s → PlainRun due u ls more t) → PlainRun due s (l ∷ ls) rs t
        by_answer m s l ls r u k both more rs n t is told calm same apart apart_both speaks (inl answered) next stay = (r, u, more, inl answered, is, next answered.1)
        by_answer m s l ls r u k both more rs n t is told calm same apart apart_both speaks (inr excused) next stay =
            let memory = only_memory m (due s l).adds r k both told calm same apart apart_both excused.0 in
            (r, u, more, inr (due_some (due s l).reply r speaks memory, memory, excused.1), is, stay excused.1)

    -- so is one that starts outside a batch
    pub plain_run_out : (m : Moment) (s : Stage V) (ls : List (List ℕ)) (rs : List Reply) (n : Moment) (t : Stage V) → s.state.begun ≡ None → Run M m s ls rs n t → Carries M m s → m.blocks ≢ None
        → (Rose m.faults n.faults → ⊥) → AreAllApart n (MayBegin due s.state ls) (MayPut due s.state ls) → PlainRun due s.state ls rs t.state
    plain_run_out m s ls rs n t out run at told calm apart =
        plain_run m s ls rs n t (MayBegin due s.state ls) (MayPut due s.state ls) apart (λ b. b) (λ b p. p) (none_begun s.state.begun (MayBegin due s.state ls) out) (backed_out (MayBegin due s.state ls) (MayPut due s.state ls) m s out) run at told calm
