-- The steps of the search for a key's place among the entries of a map.
use Rattle.std.proofs.Common.{◌≡◌, ℕ, ◌+◌, ◌^◌, ◌<◌, ◌≤◌, List, [], ◌∷◌, ◌++◌, length, Some, None, refl, ap, sym, subst, ◌∙◌, length-append, append_assoc, append-nil, arith}
use Rattle.std.specs.Borrow.{Bor}
use Rattle.std.specs.declared.cmp.Ordering.TheVariants.{Less, Equal, Greater}
use Rattle.ild_cbor.specs.declared.node.Node.{Node}
use Rattle.ild_cbor.specs.declared.pairs.Pairs.{Pairs}
use Rattle.ild_cbor.specs.Nodes.{HasData}
use Rattle.ild_cbor.specs.Steps.{HasEntries, EntryStep, EntriesGive, FindsEntries}
use Rattle.ild_splice_changes.specs.Laws.{spell_pairs}
use Rattle.ild_splice_changes.proofs.Maps.{below_absent}
use Rattle.ild_splice_changes.proofs.Counts.{spell_pairs-append}
use Rattle.ild_data.specs.Data.{Data, map, Members, no_members, member, members_list}
use Rattle.ild_data.specs.Key.{key_cmp, put, without, Rises}
use Rattle.ild_data.specs.Limits.{longest_block}
use Rattle.ild_data.specs.Spell.{head, spell, spell_text, spell_members}
use Rattle.ild_data.specs.Tree.{AreEntries}
use Rattle.ild_data.proofs.Lists.{members_of-members_list}
use Rattle.ild_data.proofs.Rising.{rises_list}
use Rattle.ild_splice.specs.Around.{AreCutAtKey}
use Rattle.ild_splice.proofs.Keyed.{put_less, put_equal, put_greater, without_equal, without_greater, stays}

-- some entries were passed, and the place of the key is behind them
pub record Passed (key : List ℕ) (ms : List (List ℕ × Data)) (passed : ℕ) (rest : Pairs) : Type 0 where
  pub front : List (List ℕ × Data)
  pub left : Members
  pub has : HasEntries rest left
  pub whole : ms ≡ front ++ members_list left
  pub passed_is : passed ≡ length (spell_pairs front)
  pub puts : (e : Data) → put key e ms ≡ front ++ put key e (members_list left)
  pub goes : without key ms ≡ front ++ without key (members_list left)
  pub rises : Rises (members_list left)
  pub short : length (spell_pairs ms) ≤ longest_block

pub begins : (n : Node) (ms : Members) (key : List ℕ) (entries : Pairs) → HasData n (map ms) → FindsEntries n (Some ms) (Some entries) → Passed key (members_list ms) 0 entries
begins n ms key entries stands finds =
    let within = stands.within in
    let sized = within.sized in
    let all = members_of-members_list ms in
    let both = length-append (head 5 (length (members_list ms))) (spell_members ms) in
    let same : length (spell_pairs (members_list ms)) ≡ length (spell_members ms) = ap (λ es. length (spell_members es)) all in
    record {
      front = [];
      left = ms;
      has = finds.left;
      whole = refl;
      passed_is = refl;
      puts = λ e. refl;
      goes = refl;
      rises = rises_list (members_list ms) (subst (λ (es : Members). AreEntries es) (sym all) within.tree);
      short = omega arith;
    }

-- the next entry, and that the place of the key is not before those that were passed
pub record Found (key : List ℕ) (ms : List (List ℕ × Data)) (passed : ℕ) (name : List ℕ) (value : Node) (rest : Pairs) : Type 0 where
  pub front : List (List ℕ × Data)
  pub of : Data
  pub left : Members
  pub has : HasEntries rest left
  pub stands : HasData value of
  pub whole : ms ≡ front ++ (name, of) ∷ members_list left
  pub passed_is : passed ≡ length (spell_pairs front)
  pub puts : (e : Data) → put key e ms ≡ front ++ put key e ((name, of) ∷ members_list left)
  pub goes : without key ms ≡ front ++ without key ((name, of) ∷ members_list left)
  pub rises : Rises ((name, of) ∷ members_list left)
  pub short : length (spell_pairs ms) ≤ longest_block

found_in : (key : List ℕ) (ms front : List (List ℕ × Data)) (left : Members) (passed : ℕ) (rest : Pairs) (x : Bor (List ℕ) × Node) (t : Pairs) → EntryStep rest left (Some x) t
    → ms ≡ front ++ members_list left → passed ≡ length (spell_pairs front) → ((e : Data) → put key e ms ≡ front ++ put key e (members_list left)) → without key ms ≡ front ++ without key (members_list left)
    → Rises (members_list left) → length (spell_pairs ms) ≤ longest_block → Found key ms passed x.0.now x.1 t
found_in key ms front no_members passed rest x t step whole is puts goes rises short = absurd step
found_in key ms front (member k d left) passed rest x t step whole is puts goes rises short =
    subst (λ (name : List ℕ). Found key ms passed name x.1 t) (sym step.key_is)
    (record { front = front; of = d; left = left; has = step.left; stands = step.stands; whole = whole; passed_is = is; puts = puts; goes = goes; rises = rises; short = short })

pub found : (key : List ℕ) (ms : List (List ℕ × Data)) (passed : ℕ) (rest : Pairs) (x : Bor (List ℕ) × Node) (t : Pairs) → Passed key ms passed rest → EntriesGive rest (Some x) t → Found key ms passed x.0.now x.1 t
found key ms passed rest x t p gives = found_in key ms p.front p.left passed rest x t (gives p.left p.has) p.whole p.passed_is p.puts p.goes p.rises p.short

-- what a call told that adds up the passed entries and one more
abbrev pub Adds : ℕ → List ℕ → Node → ℕ → Type 0
Adds passed name value next = (d : Data) → HasData value d → passed + length (spell_text name) + length (spell d) < 2 ^ 64 → next ≡ passed + length (spell_text name) + length (spell d)

-- how much is passed with the next entry
added : (key : List ℕ) (ms : List (List ℕ × Data)) (passed next : ℕ) (name : List ℕ) (value : Node) (rest : Pairs) (f : Found key ms passed name value rest) → Adds passed name value next
    → next ≡ length (spell_pairs f.front) + length (spell_text name ++ spell f.of)
added key ms passed next name value rest f adds =
    let short = f.short in
    let is = f.passed_is in
    let one = length-append (spell_text name) (spell f.of) in
    let two = length-append (spell_text name ++ spell f.of) (spell_pairs (members_list f.left)) in
    let all : length (spell_pairs ms) ≡ length (spell_pairs f.front ++ spell_pairs ((name, f.of) ∷ members_list f.left)) =
    ap length (ap spell_pairs f.whole ∙ spell_pairs-append f.front ((name, f.of) ∷ members_list f.left)) in
    let both = length-append (spell_pairs f.front) (spell_pairs ((name, f.of) ∷ members_list f.left)) in
    let next_is = adds f.of f.stands (omega arith) in
    omega arith

pub passes : (key : List ℕ) (ms : List (List ℕ × Data)) (passed next : ℕ) (name : List ℕ) (value : Node) (rest : Pairs) → Found key ms passed name value rest → Adds passed name value next → key_cmp key name ≡ Greater
    → Passed key ms next rest
passes key ms passed next name value rest f adds after =
    let m : List ℕ × Data = (name, f.of) in
    let more = members_list f.left in
    let last : spell_pairs (m ∷ []) ≡ spell_text name ++ spell f.of = append-nil (spell_text name ++ spell f.of) in
    let fronts : length (spell_pairs (f.front ++ m ∷ [])) ≡ length (spell_pairs f.front) + length (spell_text name ++ spell f.of) =
    ap length (spell_pairs-append f.front (m ∷ [])) ∙ length-append (spell_pairs f.front) (spell_pairs (m ∷ [])) ∙ ap (λ xs. length (spell_pairs f.front) + length xs) last in
    record {
      front = f.front ++ m ∷ [];
      left = f.left;
      has = f.has;
      whole = f.whole ∙ sym (append_assoc f.front (m ∷ []) more);
      passed_is = added key ms passed next name value rest f adds ∙ sym fronts;
      puts = λ e. f.puts e ∙ ap (λ xs. f.front ++ xs) (put_greater key e m more after) ∙ sym (append_assoc f.front (m ∷ []) (put key e more));
      goes = f.goes ∙ ap (λ xs. f.front ++ xs) (without_greater key m more after) ∙ sym (append_assoc f.front (m ∷ []) (without key more));
      rises = f.rises.1;
      short = f.short;
    }

pub stops : (key : List ℕ) (ms : List (List ℕ × Data)) (passed : ℕ) (name : List ℕ) (value : Node) (rest : Pairs) → Found key ms passed name value rest → key_cmp key name ≡ Less
    → AreCutAtKey passed passed key ms
stops key ms passed name value rest f before =
    let m : List ℕ × Data = (name, f.of) in
    let more = members_list f.left in
    let is = f.passed_is in
    record {
      front = f.front;
      here = [];
      behind = m ∷ more;
      cuts = record {
        puts = λ e. f.puts e ∙ ap (λ xs. f.front ++ xs) (put_less key e m more before);
        goes = f.goes ∙ ap (λ xs. f.front ++ xs) (stays key (m ∷ more) (below_absent key (m ∷ more) before f.rises));
      };
      whole = ap spell_pairs f.whole ∙ spell_pairs-append f.front (m ∷ more);
      from_is = is;
      to_is = omega arith;
    }

pub meets : (key : List ℕ) (ms : List (List ℕ × Data)) (passed next : ℕ) (name : List ℕ) (value : Node) (rest : Pairs) → Found key ms passed name value rest → Adds passed name value next → key_cmp key name ≡ Equal
    → AreCutAtKey passed next key ms
meets key ms passed next name value rest f adds same =
    let m : List ℕ × Data = (name, f.of) in
    let more = members_list f.left in
    record {
      front = f.front;
      here = spell_text name ++ spell f.of;
      behind = more;
      cuts = record {
        puts = λ e. f.puts e ∙ ap (λ xs. f.front ++ xs) (put_equal key e m more same);
        goes = f.goes ∙ ap (λ xs. f.front ++ xs) (without_equal key m more same);
      };
      whole = ap spell_pairs f.whole ∙ spell_pairs-append f.front (m ∷ more);
      from_is = f.passed_is;
      to_is = added key ms passed next name value rest f adds;
    }

ends_in : (key : List ℕ) (ms front : List (List ℕ × Data)) (left : Members) (passed : ℕ) (rest t : Pairs) → EntryStep rest left None t → ms ≡ front ++ members_list left → passed ≡ length (spell_pairs front)
    → ((e : Data) → put key e ms ≡ front ++ put key e (members_list left)) → without key ms ≡ front ++ without key (members_list left) → AreCutAtKey passed passed key ms
ends_in key ms front no_members passed rest t step whole is puts goes = record {
  front = front;
  here = [];
  behind = [];
  cuts = record { puts = puts; goes = goes };
  whole = ap spell_pairs whole ∙ spell_pairs-append front [];
  from_is = is;
  to_is = omega arith;
}
ends_in key ms front (member k d left) passed rest t step whole is puts goes = absurd step

pub ends : (key : List ℕ) (ms : List (List ℕ × Data)) (passed : ℕ) (rest t : Pairs) → Passed key ms passed rest → EntriesGive rest None t → AreCutAtKey passed passed key ms
ends key ms passed rest t p gives = ends_in key ms p.front p.left passed rest t (gives p.left p.has) p.whole p.passed_is p.puts p.goes
