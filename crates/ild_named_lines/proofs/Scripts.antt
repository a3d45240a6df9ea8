-- The lines of a script that is made line by line.
use Rattle.std.proofs.Common.{◌≡◌, ℕ, ◌+◌, ◌-◌, ◌<◌, List, [], ◌∷◌, ◌++◌, length, get_or, take, drop, map, Bool, true, false, cond, ltb, Some, None, refl, sym, ap, ◌∙◌, subst, append_assoc, arith}
use Rattle.std.specs.Prelude.{codes, nat_eq}
use Rattle.std.specs.List.{AllByRecursion, after_first, before_first, join_with_byte, position, position_or_len, slice_split, starts_with}
use Rattle.std.proofs.lemmas.Bool.Decides.{nat_tests}
use Rattle.std.proofs.lemmas.Bool.{true≢false}
use Rattle.std.proofs.lemmas.List.{take-append-drop, take_more, take_rest}
use Rattle.std.proofs.lemmas.List.Splits.{slice_split_first}
use Rattle.std.proofs.lemmas.List.Sums.{passes_at_first}
use Rattle.ild_data.specs.Key.{same_text}
use Rattle.ild_script.specs.Line.{is_feed, is_space, lines_of}
use Rattle.ild_named_lines.specs.Beneath.{from_space, line_beneath, path_beneath, rest_beneath, script_beneath}
use Rattle.ild_named_lines.specs.Laws.{ScriptsAreOfLines}
use Rattle.ild_named_lines.proofs.Cuts.{Lacks, Parts, cut, whole, has_cut, lacks_append, lacks_back, lacks_front, ltb_yes, parts_lack, parts_of, same_number, split_cut, split_whole}

-- ---- no line gets a line feed

abbrev Feedless : List ℕ → Type 0
Feedless bs = Lacks is_feed bs

take_feedless : (n : ℕ) (bs : List ℕ) → Feedless bs → Feedless (take n bs)
take_feedless n bs l = lacks_front is_feed (take n bs) (drop n bs) (subst Feedless (sym (take-append-drop n bs)) l)

drop_feedless : (n : ℕ) (bs : List ℕ) → Feedless bs → Feedless (drop n bs)
drop_feedless n bs l = lacks_back is_feed (take n bs) (drop n bs) (subst Feedless (sym (take-append-drop n bs)) l)

value_feedless : Feedless (codes "/value")
value_feedless = (refl, (refl, (refl, (refl, (refl, (refl, tt))))))

path_feedless : (path : List ℕ) → Feedless path → Feedless (path_beneath path)
path_feedless path l = by (same_text path (codes ".")) (starts_with nat_eq path (codes "/"))
  where
    by : (dot slash : Bool) → Feedless (cond dot (codes "/value") (cond slash (codes "/value" ++ path) path))
    by true slash = value_feedless
    by false true = lacks_append is_feed (codes "/value") path value_feedless l
    by false false = l

rest_feedless : (rest : List ℕ) → Feedless rest → Feedless (rest_beneath rest)
rest_feedless rest l =
    lacks_append is_feed (path_beneath (before_first is_space rest)) (from_space rest) (path_feedless (before_first is_space rest) (take_feedless (position_or_len is_space rest) rest l))
    (drop_feedless (position_or_len is_space rest) rest l)

line_feedless : (line : List ℕ) → Feedless line → Feedless (line_beneath line)
line_feedless line l = by (ltb (position_or_len is_space line) (length line))
  where
    by : (t : Bool) → Feedless (cond t (before_first is_space line ++ (32 ∷ rest_beneath (after_first is_space line))) line)
    by true =
        lacks_append is_feed (before_first is_space line) (32 ∷ rest_beneath (after_first is_space line)) (take_feedless (position_or_len is_space line) line l)
        (refl, rest_feedless (after_first is_space line) (drop_feedless (position_or_len is_space line + 1) line l))
    by false = l

lines_feedless : (lines : List (List ℕ)) → AllByRecursion Feedless lines → AllByRecursion Feedless (map line_beneath lines)
lines_feedless [] l = tt
lines_feedless (line ∷ lines) l = (line_feedless line l.0, lines_feedless lines l.1)

-- ---- lines that are joined are split again

split_joined : (line : List ℕ) (lines : List (List ℕ)) → AllByRecursion Feedless (line ∷ lines) → lines_of (join_with_byte 10 (line ∷ lines)) ≡ line ∷ lines
split_joined line [] l = split_whole is_feed line l.0
split_joined line (next ∷ lines) l = split_cut is_feed 10 refl line (join_with_byte 10 (next ∷ lines)) l.0 ∙ ap (λ ls. line ∷ ls) (split_joined next lines l.1)

-- a script has a line
abbrev AreSome : List (List ℕ) → Type 0
AreSome [] = ⊥
AreSome (line ∷ lines) = Unit {0}

some_lines : (script : List ℕ) → AreSome (lines_of script)
some_lines script = by (parts_of is_feed script)
  where
    by : Parts is_feed script → AreSome (lines_of script)
    by (whole l) = subst AreSome (sym (split_whole is_feed script l)) tt
    by (cut c) = subst AreSome (sym (ap (slice_split is_feed) c.is ∙ split_cut is_feed c.byte c.passes c.front c.back c.lacks)) tt

joined : (lines : List (List ℕ)) → AreSome lines → AllByRecursion Feedless lines → lines_of (join_with_byte 10 (map line_beneath lines)) ≡ map line_beneath lines
joined [] some l = absurd some
joined (line ∷ lines) some l = split_joined (line_beneath line) (map line_beneath lines) (lines_feedless (line ∷ lines) l)

pub scripts_of_lines : ScriptsAreOfLines
scripts_of_lines script = joined (lines_of script) (some_lines script) (parts_lack is_feed script)

-- ---- one line after another

at_some : (n m i : ℕ) → Some i ≡ cond (ltb n m) (Some n) None → (n < m) × (i ≡ n)
at_some n m i e = grind (arith, nat_tests)

at_none : (n m : ℕ) → None ≡ cond (ltb n m) (Some n) None → ltb n m ≡ false
at_none n m e = grind (arith, nat_tests)

-- behind the first space of a line
pub line_cut : (line : List ℕ) (at : ℕ) → Some at ≡ position is_space line
    → line_beneath line ≡ take (at + 1) line ++ rest_beneath (take (length line - (at + 1)) (drop (at + 1) line))
line_cut line at e =
    let n : ℕ = position_or_len is_space line in
    let found = at_some n (length line) at e in
    let space : get_or line n 0 ≡ 32 = same_number _ 32 (sym (passes_at_first is_space line 0 found.0)) in
    let front : take (at + 1) line ≡ take n line ++ (32 ∷ []) = rw found.1 (take_more line n 0 found.0 ∙ ap (λ b. take n line ++ (b ∷ [])) space) in
    let back : take (length line - (at + 1)) (drop (at + 1) line) ≡ drop (n + 1) line = ap (λ i. take (length line - (i + 1)) (drop (i + 1) line)) found.1 ∙ take_rest line (n + 1) in
    ap (λ t. cond t (take n line ++ (32 ∷ rest_beneath (drop (n + 1) line))) line) (ltb_yes n (length line) found.0)
    ∙ sym (append_assoc (take n line) (32 ∷ []) (rest_beneath (drop (n + 1) line)))
    ∙ ap (λ xs. xs ++ rest_beneath (drop (n + 1) line)) (sym front) ∙ ap (λ xs. take (at + 1) line ++ rest_beneath xs) (sym back)

-- the first line of a script and the others
joined_more : (line : List ℕ) (lines : List (List ℕ)) → AreSome lines → join_with_byte 10 (map line_beneath (line ∷ lines)) ≡ line_beneath line ++ (10 ∷ join_with_byte 10 (map line_beneath lines))
joined_more line [] some = absurd some
joined_more line (next ∷ lines) some = refl

pub script_cut : (script : List ℕ) (at : ℕ) → Some at ≡ position is_feed script
    → script_beneath script ≡ line_beneath (take at script) ++ (10 ∷ script_beneath (take (length script - (at + 1)) (drop (at + 1) script)))
script_cut script at e =
    let n : ℕ = position_or_len is_feed script in
    let found = at_some n (length script) at e in
    let back : take (length script - (at + 1)) (drop (at + 1) script) ≡ drop (n + 1) script = ap (λ i. take (length script - (i + 1)) (drop (i + 1) script)) found.1 ∙ take_rest script (n + 1) in
    ap (λ ls. join_with_byte 10 (map line_beneath ls)) (slice_split_first is_feed script 0 found.0)
    ∙ joined_more (take n script) (lines_of (drop (n + 1) script)) (some_lines (drop (n + 1) script))
    ∙ ap (λ i. line_beneath (take i script) ++ (10 ∷ script_beneath (drop (n + 1) script))) (sym found.1)
    ∙ ap (λ xs. line_beneath (take at script) ++ (10 ∷ script_beneath xs)) (sym back)

last_by : (script : List ℕ) → ltb (position_or_len is_feed script) (length script) ≡ false → Parts is_feed script → script_beneath script ≡ line_beneath script
last_by script e (whole l) = ap (λ ls. join_with_byte 10 (map line_beneath ls)) (split_whole is_feed script l)
last_by script e (cut c) = absurd (true≢false (sym (subst (λ (bs : List ℕ). ltb (position_or_len is_feed bs) (length bs) ≡ true) (sym c.is) (has_cut is_feed c.byte c.passes c.front c.back c.lacks)) ∙ e))

-- the last line of a script
pub script_last : (script : List ℕ) → None ≡ position is_feed script → script_beneath script ≡ line_beneath script
script_last script e = last_by script (at_none (position_or_len is_feed script) (length script) e) (parts_of is_feed script)

-- ---- what was made, before what is still to be made

module _ (script made rest : List ℕ) (so_far : made ++ script_beneath rest ≡ script_beneath script) where
  pub made_more : (with_line now : List ℕ) (at : ℕ) → Some at ≡ position is_feed rest → with_line ≡ made ++ line_beneath (take at rest) → now ≡ with_line ++ (10 ∷ [])
      → now ++ script_beneath (take (length rest - (at + 1)) (drop (at + 1) rest)) ≡ script_beneath script
  made_more with_line now at e line feed =
      let left : List ℕ = script_beneath (take (length rest - (at + 1)) (drop (at + 1) rest)) in
      ap (λ xs. xs ++ left) (feed ∙ ap (λ xs. xs ++ (10 ∷ [])) line)
      ∙ append_assoc (made ++ line_beneath (take at rest)) (10 ∷ []) left
      ∙ append_assoc made (line_beneath (take at rest)) (10 ∷ left)
      ∙ ap (λ xs. made ++ xs) (sym (script_cut rest at e))
      ∙ so_far

  pub made_all : (now : List ℕ) → None ≡ position is_feed rest → now ≡ made ++ line_beneath rest → now ≡ script_beneath script
  made_all now e line = line ∙ ap (λ xs. made ++ xs) (sym (script_last rest e)) ∙ so_far
