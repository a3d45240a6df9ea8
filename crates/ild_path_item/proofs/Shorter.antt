-- A map without an entry is spelled in no more bytes.
use Rattle.std.proofs.Common.{ℕ, ◌+◌, ◌≤◌, Bool, true, false, cond, List, [], ◌∷◌, ◌++◌, length, length-append, ap, subst, arith}
use Rattle.ild_data.proofs.Lists.{members_list-members_of, members_of-members_list}
use Rattle.ild_data.specs.Data as T
use Rattle.ild_data.specs.Data.{Data, Members, members_list, members_of}
use Rattle.ild_data.specs.Key.{same_text, without}
use Rattle.ild_data.specs.Spell.{head, spell, spell_members, spell_text}
use Rattle.ild_splice_changes.specs.TreeChange.{change_here, remove_entry}
use Rattle.ild_data.proofs.HeadSizes.{head_more}

-- ---- entries

abbrev Entries : Type 0
Entries = List (List ℕ × Data)

abbrev bytes_in : Entries → ℕ
bytes_in es = length (spell_members (members_of es))

record NoMore (es fs : Entries) : Type 0 where
  count : length es ≤ length fs
  bytes : bytes_in es ≤ bytes_in fs

one_goes : (k : List ℕ) (m : List ℕ × Data) (ms : Entries) (b : Bool) → NoMore (without k ms) ms → NoMore (cond b ms (m ∷ without k ms)) (m ∷ ms)
one_goes k m ms true rest = record { count = omega arith; bytes = omega (arith, length-append (spell_text m.0 ++ spell m.1) (spell_members (members_of ms))) }
one_goes k m ms false rest =
    let count = rest.count in
    let bytes = rest.bytes in
    record {
      count = omega (arith, count);
      bytes = omega (
        arith,
        bytes,
        length-append (spell_text m.0 ++ spell m.1) (spell_members (members_of ms)),
        length-append (spell_text m.0 ++ spell m.1) (spell_members (members_of (without k ms))),
      );
    }

no_more : (k : List ℕ) (ms : Entries) → NoMore (without k ms) ms
no_more k [] = record { count = omega arith; bytes = omega arith }
no_more k (m ∷ ms) = one_goes k m ms (same_text k m.0) (no_more k ms)

map_shorter : (k : List ℕ) (es : Entries) → length (spell (T.map (members_of (without k es)))) ≤ length (spell (T.map (members_of es)))
map_shorter k es =
    let rest = no_more k es in
    let count = rest.count in
    let bytes = rest.bytes in
    let head_of : length (head 5 (length (members_list (members_of (without k es))))) ≤ length (head 5 (length (members_list (members_of es)))) =
    head_more 5 (length (members_list (members_of (without k es)))) (length (members_list (members_of es)))
    (omega (arith, count, ap length (members_list-members_of (without k es)), ap length (members_list-members_of es))) in
    omega (
      arith,
      bytes,
      head_of,
      length-append (head 5 (length (members_list (members_of (without k es))))) (spell_members (members_of (without k es))),
      length-append (head 5 (length (members_list (members_of es)))) (spell_members (members_of es)),
    )

-- whatever has the entry taken away
pub gone_shorter : (k : List ℕ) (t : Data) → length (spell (change_here (remove_entry k) t)) ≤ length (spell t)
gone_shorter k (T.map ms) =
    subst (λ (z : Members). length (spell (T.map (members_of (without k (members_list ms))))) ≤ length (spell (T.map z))) (members_of-members_list ms) (map_shorter k (members_list ms))
gone_shorter k T.null = omega arith
gone_shorter k (T.boolean b) = omega arith
gone_shorter k (T.integer n) = omega arith
gone_shorter k (T.text s) = omega arith
gone_shorter k (T.bytes s) = omega arith
gone_shorter k (T.list ds) = omega arith
gone_shorter k (T.link s) = omega arith
