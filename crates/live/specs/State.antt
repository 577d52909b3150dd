-- The state of live rules, and what each call does to it, on every state, also one that no list of calls leads to. Assumes nothing.
use Rattle.std.specs.Prelude.{Result, Ok, Err, ℕ, ◌+◌, ◌*◌, ◌-◌, Bool, cond, not, ◌&&◌, List, [], ◌∷◌, map, leb, ltb, eqb, length, get_or, set, take, drop, replicate}
use Rattle.refusal.specs.Outcome.{Outcome}
use Rattle.refusal.specs.declared.Refusal.{Refusal}
use Rattle.refusal.specs.declared.Refusal.TheVariants.{PlanSizes, Unwatchable, Unfitting}
use Rattle.refusal.specs.First.{◌or_else◌, unless}
use Rattle.fields.specs.LittleEndian.{number_at}
use Rattle.rule.specs.Layout.{part_count, channel_count}
use Rattle.rule.specs.Take.{views_of}
use Rattle.rule.specs.Put.{overwritten}
use Rattle.rule.specs.Sheet.{sheet_outcome}
use Rattle.plan.specs.Layout.{any_below, tops_fit}
use Rattle.past.specs.Ahead.{view_ahead}
use Rattle.live.specs.declared.Watch.{Watch}
use Rattle.live.specs.declared.Live.{Live}
use Rattle.live.specs.declared.Answer.{Answer}
use Rattle.live.specs.declared.Answer.TheVariants as answer
use Rattle.live.specs.Kept.{tabulated, readings_after}
use Rattle.live.specs.Truths.{truths_to}

-- A place that holds no rule has no parts.
abbrev pub empty_watch : Watch
empty_watch = record { parts = 0; age = 0; truths = replicate 64 0 }

-- a rule just added: no row came since
abbrev pub new_watch : List ℕ → Watch
new_watch sheet = record { parts = part_count sheet; age = 0; truths = replicate 64 0 }

-- A rule has 1 to 64 parts; a place with another number holds none.
unfoldable pub is_held : Watch → Bool
is_held w = leb 1 w.parts && leb w.parts 64

unfoldable pub watch_at : Live → ℕ → Watch
watch_at s p = get_or s.watches p empty_watch

-- The copies of the rules lie one after another, each in 836 bytes, the length of the longest sheet.
unfoldable pub rule_at : Live → ℕ → List ℕ
rule_at s p = take 836 (drop (836 * p) s.rules)

-- ---- start

-- 4 V is outside 1 to 8, the tops are not V, or one is negative.
unfoldable pub start_outcome : ℕ → List ℕ → Outcome
start_outcome v tops = unless (leb 1 v && (leb v 8 && (eqb (length tops) (4 * v) && tops_fit tops v))) PlanSizes

-- the top of a channel as the state keeps it, 0 where there is none
unfoldable pub kept_top : List ℕ → ℕ → ℕ → ℕ
kept_top tops v channel = cond (ltb channel v) (number_at 4 tops (4 * channel)) 0

-- the empty state
unfoldable pub empty_live : ℕ → List ℕ → Live
empty_live v tops = record {
  channels = v;
  tops = tabulated 8 (kept_top tops v);
  readings = replicate 40 0;
  watches = replicate 4 empty_watch;
  rules = replicate 3344 0;
}

-- ---- a row

-- The age of a rule is the number of rows since it was added; 5 stands for all from 5 on, as a shift reaches four rows back.
unfoldable pub older : ℕ → ℕ
older age = cond (ltb age 4) (age + 1) 5

unfoldable pub watch_after : List ℕ → List ℕ → Watch → Watch
watch_after readings rule w =
    cond (is_held w)
    (record {
      parts = w.parts;
      age = older w.age;
      truths = truths_to readings (older w.age) rule w.truths w.parts w.parts;
    })
    w

-- 17 A row has other than V readings.
unfoldable pub row_outcome : Live → List ℕ → Outcome
row_outcome s row = unless (leb s.channels 8 && eqb (length row) (4 * s.channels)) Unfitting

-- A row changes the readings and the watches, and no other field.
unfoldable pub after_row : Live → List ℕ → Live
after_row s row = record s {
  readings = readings_after s.readings s.tops row s.channels;
  watches = map (λ p. watch_after (readings_after s.readings s.tops row s.channels) (rule_at s p) (watch_at s p)) (0 ∷ 1 ∷ 2 ∷ 3 ∷ []);
}

-- ---- add and drop

unfoldable pub with_place : Live → ℕ → Watch → List ℕ → Live
with_place s p w rules = record { channels = s.channels; tops = s.tops; readings = s.readings; watches = set s.watches p w; rules = rules }

-- A rule can be watched that has the state's V and no X, U, R or shift above 0, also in a part that nobody names.
unfoldable pub watchable : ℕ → List ℕ → Bool
watchable v sheet = eqb (channel_count sheet) v && not (any_below (λ i. view_ahead (views_of sheet i)) (part_count sheet))

-- 1 to 3, then 16, then 17 where the place is above 3 or taken, given whether it is free
unfoldable pub add_outcome : ℕ → ℕ → List ℕ → Bool → Outcome
add_outcome v p sheet free = sheet_outcome sheet or_else unless (watchable v sheet) Unwatchable or_else unless (ltb p 4 && free) Unfitting

unfoldable pub after_add : Live → ℕ → List ℕ → Live
after_add s p sheet = with_place s p (new_watch sheet) (overwritten s.rules (836 * p) sheet)

-- 17 where the place is above 3 or empty
unfoldable pub drop_outcome : ℕ → Bool → Outcome
drop_outcome p free = unless (ltb p 4 && not free) Unfitting

unfoldable pub after_drop : Live → ℕ → Live
after_drop s p = with_place s p empty_watch s.rules

-- ---- an answer

-- "empty", "not yet" before a first row, then the truth of the last part
unfoldable pub watch_answer : Watch → Answer
watch_answer w =
    cond (is_held w)
    (cond (eqb w.age 0) answer.NotYet (answer.Truth (eqb (get_or w.truths (w.parts - 1) 0) 1)))
    answer.Empty

-- A place above 3 is refused, also when its answer is read.
unfoldable pub answer_of : Live → ℕ → Result Answer Refusal
answer_of s p = cond (ltb p 4) (Ok (watch_answer (watch_at s p))) (Err Unfitting)

-- ---- a call that may be refused

-- the state after it: where it was refused, as it was
unfoldable pub unless_refused : Outcome → Live → Live → Live
unless_refused (Ok _) new old = new
unless_refused (Err r) new old = old
