-- More examples: a table of calls with the numbers that they return and the bytes that they leave, in which every kind and
-- every refusal occurs, and all that is said of the bytes of both tables. Assumes nothing.
use Rattle.std.specs.Prelude.{ℕ, ◌<◌, List, [], ◌∷◌}
use Rattle.fields.specs.inner.Ranges.{Bytes}
use Rattle.settling.specs.Promise.{NoDrift}
use Rattle.settling.specs.Promise as settling
use Rattle.worked_examples.specs.Rows.{All}
use Rattle.worked_examples.specs.Calls.{Call, checks, makes, settles, judges, Gives}
use Rattle.worked_examples.specs.SheetsRead.{sheets, ReadsAs}
use Rattle.worked_examples.specs.SheetsPut.{sheets_put, PutsAs}
use Rattle.worked_examples.specs.Nestings.{nested, NestsAs}
use Rattle.worked_examples.specs.PlansRead.{plans, sights, SizedAs, SeesAs}
use Rattle.worked_examples.specs.Handed.{question_bytes, call_bytes}
use Rattle.worked_examples.specs.Table.{rule_e1, rule_e2, rule_e4, rule_e8, rule_e9_0, plan_a, plan_b, plan_e9, plan_e10, examples, marks_e4_2}
use Rattle.worked_examples.specs.MoreSheets.{rule_kinds, rule_release, rule_past, rule_weak, rule_since, rule_trigger, rule_limit, rule_met, rule_reach, rule_eight_channels, rule_windows, rule_hours, rule_first_day, rule_day_before, rule_back, rule_no_parts, rule_long, rule_nine_channels, rule_kind0, rule_kind15, rule_shifted_constant, rule_shift_code9, rule_form2, rule_channel1, rule_names_itself, rule_spare_byte, rule_window_constant, rule_window_from, rule_window_to, rule_window_none, rule_window_spare, rule_pinned, rule_pinned_past, rule_pinned_back, rule_under, rule_top_windows, rule_course, rule_pinned_constant, rule_pinned_channel1, rule_pinned_shift_code9, rule_pinned_terms, rule_pinned_spare, rule_most_parts, rule_too_many_parts}
use Rattle.worked_examples.specs.MorePlans.{plan_three, plan_week, plan_leap, plan_start_drift, plan_no_cycle, plan_long, plan_lead, plan_lead_drift, plan_behind_lead_drift, plan_seven_bytes, plan_most_lead, plan_too_much_lead, plan_most_rows, plan_too_many_rows, plan_most_channels, plan_too_many_channels, plan_high, plan_three_top, plan_top, plan_top_clock, plan_top_b, plan_top_e10, plan_top_high, plan_course, plan_top_negative, plan_top_lowest, plan_top_short, plan_top_left_out}
use Rattle.worked_examples.specs.MoreMarks.{marks_kinds, marks_lead, marks_lead_seen, marks_release_1, marks_release_0, marks_release_spare, marks_long, marks_byte2, marks_bytes2, marks_broken, marks_spare, marks_spare_broken, marks_lower_broken, marks_lower_spare, marks_past, marks_past_held, marks_met_wrong, marks_weak_held, marks_since_held, marks_trigger_held, marks_limit, marks_limit_broken, marks_limit_spare, marks_windows, marks_windows_broken, marks_windows_spare, marks_first_day, marks_first_day_wrong, lent_full, lent_sevens, zeros, zeros_first_day, marks_pinned, marks_pinned_true, marks_pinned_spare, marks_course, lent_course, zeros_pinned}
use Rattle.worked_examples.specs.Layouts.{lent_plan, lent_scratch, cleared_scratch, long_scratch, laid_a_0, laid_a_1, laid_b_1, laid_leap_1, laid_lead_1, laid_top_b_1, laid_top_b_2}

-- A refusal is number × 2^32 + part × 2^16 + row; beside it stand its number, part and row.
unfoldable pub more : List Call
more =
    -- Accepted. Every kind: the whole rule, of kind 14, is false at position 0, where it looks before the run.
    checks rule_kinds plan_three_top marks_kinds 0
    -- R marked 1 is true at position 0.
    ∷ checks rule_release plan_e10 marks_release_1 1
    -- Y does not see the lead-in.
    ∷ checks rule_e2 plan_lead marks_lead 0
    -- Windows, on rows that drift by a day, a week and an hour back, none of which changes: the last one is false at position 0.
    ∷ checks rule_windows plan_week marks_windows 0
    -- Under a top: a reading that is at it for ever, one of a channel without a top, and the rule of the course.
    ∷ checks rule_pinned plan_top_e10 marks_pinned_true 1
    ∷ checks rule_pinned plan_e10 marks_pinned 0
    ∷ checks rule_course plan_course marks_course 1
    -- Refused. 1: no bytes, no parts, nine channels, a byte too many. It comes before all others.
    ∷ checks [] [] [] 4294967296  -- 1, 0, 0
    ∷ checks rule_no_parts [] [] 4294967296  -- 1, 0, 0
    ∷ checks rule_nine_channels [] [] 4294967296  -- 1, 0, 0
    ∷ checks rule_long [] [] 4294967296  -- 1, 0, 0
    -- 2: the lowest such part, and all kinds before an operand.
    ∷ checks rule_kind0 [] [] 8589934592  -- 2, 0, 0
    ∷ checks rule_kind15 [] [] 8590000128  -- 2, 1, 0
    -- 3: each way to break the layout.
    ∷ checks rule_shifted_constant [] [] 12884901888  -- 3, 0, 0
    ∷ checks rule_shift_code9 [] [] 12884901888  -- 3, 0, 0
    ∷ checks rule_form2 [] [] 12884901888  -- 3, 0, 0
    ∷ checks rule_channel1 [] [] 12884901888  -- 3, 0, 0
    ∷ checks rule_names_itself [] [] 12884967424  -- 3, 1, 0
    ∷ checks rule_spare_byte [] [] 12884967424  -- 3, 1, 0
    -- 3 of a window: a constant, ends that are no minutes of the week or are equal, a byte that is not zero behind them.
    ∷ checks rule_window_constant [] [] 12884901888  -- 3, 0, 0
    ∷ checks rule_window_from [] [] 12884901888  -- 3, 0, 0
    ∷ checks rule_window_to [] [] 12884901888  -- 3, 0, 0
    ∷ checks rule_window_none [] [] 12884901888  -- 3, 0, 0
    ∷ checks rule_window_spare [] [] 12884901888  -- 3, 0, 0
    -- 3 of kind 14: a constant, no such channel, no such shift, a second term, a byte that is not zero at the end.
    ∷ checks rule_pinned_constant [] [] 12884901888  -- 3, 0, 0
    ∷ checks rule_pinned_channel1 [] [] 12884901888  -- 3, 0, 0
    ∷ checks rule_pinned_shift_code9 [] [] 12884901888  -- 3, 0, 0
    ∷ checks rule_pinned_terms [] [] 12884901888  -- 3, 0, 0
    ∷ checks rule_pinned_spare [] [] 12884901888  -- 3, 0, 0
    -- 4: no bytes, seven bytes, no cycle row, a byte too many, a lead-in of five rows. It comes before 5.
    ∷ checks rule_e1 [] [] 17179869184  -- 4, 0, 0
    ∷ checks rule_e1 plan_seven_bytes [] 17179869184  -- 4, 0, 0
    ∷ checks rule_e1 plan_no_cycle [] 17179869184  -- 4, 0, 0
    ∷ checks rule_e1 plan_long [] 17179869184  -- 4, 0, 0
    ∷ checks rule_eight_channels plan_too_much_lead [] 17179869184  -- 4, 0, 0
    -- 4 of tops: too few bytes for them, none, a negative one. It comes before 5 and 6, whatever its channel is.
    ∷ checks rule_e1 plan_top_short [] 17179869184  -- 4, 0, 0
    ∷ checks rule_e1 plan_top_left_out [] 17179869184  -- 4, 0, 0
    ∷ checks rule_e1 plan_top_negative [] 17179869184  -- 4, 0, 0
    ∷ checks rule_e1 plan_top_lowest [] 17179869184  -- 4, 0, 0
    -- 5: another V, 8 being allowed. It comes before 6.
    ∷ checks rule_eight_channels plan_a [] 21474836480  -- 5, 0, 0
    ∷ checks rule_past plan_start_drift [] 21474836480  -- 5, 0, 0
    ∷ checks rule_past plan_lead_drift [] 21474836480  -- 5, 0, 0
    -- 6: the lowest such row; a lead-in row comes first and is named as row 0.
    ∷ checks rule_e1 plan_start_drift [] 25769803777  -- 6, 0, 1
    ∷ checks rule_e1 plan_lead_drift [] 25769803776  -- 6, 0, 0
    ∷ checks rule_e1 plan_behind_lead_drift [] 25769803777  -- 6, 0, 1
    -- 7: no bytes, another N, a byte too many. It comes before 8.
    ∷ checks rule_e1 plan_a [] 30064771072  -- 7, 0, 0
    ∷ checks rule_e1 plan_a marks_byte2 30064771072  -- 7, 0, 0
    ∷ checks rule_e1 plan_a marks_long 30064771072  -- 7, 0, 0
    -- 8: the lowest part, then the lowest row. It comes before 9.
    ∷ checks rule_e2 plan_a marks_byte2 34359803906  -- 8, 1, 2
    ∷ checks rule_e2 plan_a marks_bytes2 34359738369  -- 8, 0, 1
    -- 9: the lowest row. It comes before 10 of a higher part. Y is false on row 0 though the lead-in has what it names.
    ∷ checks rule_e2 plan_lead marks_lead_seen 38654771200  -- 9, 1, 0
    ∷ checks rule_e4 plan_a marks_broken 38654836737  -- 9, 2, 1
    ∷ checks rule_e2 plan_a marks_lower_broken 38654705665  -- 9, 0, 1
    -- Of a window that the drift steps over.
    ∷ checks rule_windows plan_week marks_windows_broken 38654836739  -- 9, 2, 3
    -- Of kind 14, with a reading at its top.
    ∷ checks rule_pinned plan_top_e10 marks_pinned 38654705664  -- 9, 0, 0
    -- 10: of a past part row P, of an atom the lowest changing row. It comes before 11 and before 9 of the same part, also where
    -- the part's own marks would close.
    ∷ checks rule_past plan_three marks_past 42949738498  -- 10, 1, 2
    ∷ checks rule_limit plan_three marks_limit 42949738499  -- 10, 1, 3
    ∷ checks rule_limit plan_three marks_limit_spare 42949738499  -- 10, 1, 3
    ∷ checks rule_limit plan_three marks_limit_broken 42949738499  -- 10, 1, 3
    ∷ checks rule_past plan_three marks_past_held 42949738498  -- 10, 1, 2
    ∷ checks rule_e9_0 plan_e9 marks_met_wrong 42949672960  -- 10, 0, 0
    ∷ checks rule_weak plan_a marks_weak_held 42949738497  -- 10, 1, 1
    ∷ checks rule_since plan_a marks_since_held 42949804033  -- 10, 2, 1
    ∷ checks rule_trigger plan_a marks_trigger_held 42949804033  -- 10, 2, 1
    -- Of a window the lowest changing row too; row 3 changes as well. The mark of row 0 is wrong in the second table.
    ∷ checks rule_first_day plan_week marks_first_day 42949672961  -- 10, 0, 1
    ∷ checks rule_first_day plan_week marks_first_day_wrong 42949672961  -- 10, 0, 1
    -- Of kind 14 too, where a reading comes to its top. The mark is wrong in the second table.
    ∷ checks rule_pinned plan_top_b marks_pinned 42949672960  -- 10, 0, 0
    ∷ checks rule_pinned plan_top_b marks_pinned_true 42949672960  -- 10, 0, 0
    -- 11: a witness that is not needed, twice, and one that is no witness. It comes before 9 and before 10 of a higher part.
    ∷ checks rule_e4 plan_a marks_spare 47244705792  -- 11, 1, 0
    ∷ checks rule_release plan_e10 marks_release_spare 47244771328  -- 11, 2, 0
    ∷ checks rule_release plan_e10 marks_release_0 47244771328  -- 11, 2, 0
    ∷ checks rule_e4 plan_a marks_spare_broken 47244705792  -- 11, 1, 0
    ∷ checks rule_e2 plan_a marks_lower_spare 47244640256  -- 11, 0, 0
    -- A window needs none, and kind 14 needs none.
    ∷ checks rule_windows plan_week marks_windows_spare 47244705792  -- 11, 1, 0
    ∷ checks rule_pinned plan_top_e10 marks_pinned_spare 47244640256  -- 11, 0, 0
    -- The largest sizes are allowed, so that the next string is what is refused, and larger ones are not (E12).
    ∷ checks rule_most_parts [] [] 17179869184  -- 4, 0, 0
    ∷ checks rule_too_many_parts [] [] 4294967296  -- 1, 0, 0
    ∷ checks rule_e1 plan_most_rows [] 30064771072  -- 7, 0, 0
    ∷ checks rule_e1 plan_too_many_rows [] 17179869184  -- 4, 0, 0
    ∷ checks rule_e1 plan_most_lead [] 30064771072  -- 7, 0, 0
    ∷ checks rule_e1 plan_too_much_lead [] 17179869184  -- 4, 0, 0
    ∷ checks rule_eight_channels plan_most_channels [] 30064771072  -- 7, 0, 0
    ∷ checks rule_eight_channels plan_too_many_channels [] 17179869184  -- 4, 0, 0
    -- Made, whatever the buffer held. Every kind: the witnesses of U and R, rows 3 and 2, are the lowest that serve.
    ∷ makes rule_kinds plan_three_top lent_full marks_kinds 0
    -- U has witness 2; R marked 1 has none, though the buffer held one.
    ∷ makes rule_e4 plan_a lent_sevens marks_e4_2 1
    ∷ makes rule_release plan_e10 marks_release_0 marks_release_1 1
    -- Windows have no witness, and kind 14 has none.
    ∷ makes rule_windows plan_week marks_windows_broken marks_windows 0
    ∷ makes rule_course plan_course lent_course marks_course 1
    -- 13: a byte too many, no bytes. It comes after 1 to 6 and before 14, and the buffer is as it was.
    ∷ makes rule_e1 plan_a marks_long marks_long 55834574848  -- 13, 0, 0
    ∷ makes rule_past plan_three [] [] 55834574848  -- 13, 0, 0
    ∷ makes rule_e1 plan_start_drift marks_byte2 marks_byte2 25769803777  -- 6, 0, 1
    -- 14: part and row as in 10. The buffer is all zero bytes.
    ∷ makes rule_past plan_three marks_past zeros 60129607682  -- 14, 1, 2
    ∷ makes rule_limit plan_three marks_limit zeros 60129607683  -- 14, 1, 3
    ∷ makes rule_first_day plan_week marks_first_day zeros_first_day 60129542145  -- 14, 0, 1
    ∷ makes rule_pinned plan_top_b marks_pinned zeros_pinned 60129542144  -- 14, 0, 0
    -- Settled, whatever the buffers held: after no pass; after one, when each cycle row has another before it that is of the cycle too.
    ∷ settles rule_e1 plan_a lent_plan lent_scratch laid_a_0 cleared_scratch 0
    ∷ settles rule_e2 plan_a lent_plan lent_scratch laid_a_1 cleared_scratch 1
    ∷ settles rule_e8 plan_b lent_plan lent_scratch laid_b_1 cleared_scratch 1
    -- After one: a window that looks before the run on pass 0 alone, and one that looks before the lead-in.
    ∷ settles rule_day_before plan_leap lent_plan lent_scratch laid_leap_1 cleared_scratch 1
    ∷ settles rule_back plan_lead lent_plan lent_scratch laid_lead_1 cleared_scratch 1
    -- After one, on which the reading has come to its top; the new plan keeps the top.
    ∷ settles rule_pinned plan_top_b lent_plan lent_scratch laid_top_b_1 cleared_scratch 1
    -- After two, on the second of which the reading is above its top; it is kept as it is.
    ∷ settles rule_pinned_past plan_top_b lent_plan lent_scratch laid_top_b_2 cleared_scratch 2
    -- 13: either buffer. It comes after 1 to 6 and before 15, and both buffers are as they were.
    ∷ settles rule_e1 plan_a plan_a lent_scratch plan_a lent_scratch 55834574848  -- 13, 0, 0
    ∷ settles rule_e8 plan_high lent_plan [] lent_plan [] 55834574848  -- 13, 0, 0
    ∷ settles rule_e8 plan_high lent_plan long_scratch lent_plan long_scratch 55834574848  -- 13, 0, 0
    ∷ settles rule_e1 plan_start_drift [] [] [] [] 25769803777  -- 6, 0, 1
    -- 15: with a pass more a reading takes more than 32 bits, or the rows are more than 256. The scratch is all zero bytes.
    ∷ settles rule_e8 plan_high lent_plan lent_scratch lent_plan cleared_scratch 64424509440  -- 15, 0, 0
    ∷ settles rule_e2 plan_most_rows lent_plan lent_scratch lent_plan cleared_scratch 64424509440  -- 15, 0, 0
    -- A window that changes for ever: two passes can be laid out, and it changes after both.
    ∷ settles rule_first_day plan_leap lent_plan lent_scratch lent_plan cleared_scratch 64424509440  -- 15, 0, 0
    -- Judged on start rows and on cycle rows: 0 always false, 1 always true, 2 changes.
    ∷ judges rule_kinds plan_three 0 0 1
    ∷ judges rule_kinds plan_three 0 1 0
    ∷ judges rule_kinds plan_three 1 3 0
    ∷ judges rule_kinds plan_three 1 4 1
    ∷ judges rule_limit plan_three 1 2 1
    ∷ judges rule_limit plan_three 1 3 2
    ∷ judges rule_met plan_three 0 2 2
    ∷ judges rule_reach plan_b 0 0 2
    -- Row 0 held against the lead-in.
    ∷ judges rule_e8 plan_lead 0 0 1
    ∷ judges rule_e8 plan_lead 0 1 0
    -- Windows. -1 is minute 10079, the last one.
    ∷ judges rule_windows plan_week 0 0 1
    ∷ judges rule_windows plan_week 1 0 0
    -- A day on each pass: 540, 1980 and so on to 9180, which are all in a window, or one of them is.
    ∷ judges rule_windows plan_week 1 1 1
    ∷ judges rule_hours plan_week 0 1 1
    ∷ judges rule_first_day plan_week 0 1 2
    -- A week on each pass: minute 60 for ever, which belongs to the window from 60 and not to the one to 60.
    ∷ judges rule_windows plan_week 2 2 1
    ∷ judges rule_hours plan_week 1 2 0
    -- An hour back on each pass: half past every hour, which steps over the window from 60 to 90.
    ∷ judges rule_windows plan_week 2 3 0
    ∷ judges rule_hours plan_week 1 3 2
    -- Over the end of the week.
    ∷ judges rule_hours plan_week 1 0 1
    -- Before the lead-in, in it, and before it on pass 0 alone.
    ∷ judges rule_back plan_lead 0 0 0
    ∷ judges rule_back plan_lead 0 1 1
    ∷ judges rule_back plan_lead 1 1 2
    -- Under a top of 9. A reading of 9 is pinned on every pass, and one of 8 on none.
    ∷ judges rule_under plan_top 6 1 1
    ∷ judges rule_under plan_top 6 2 0
    -- 9 < 10, 9 = 9 and 9 = 9 of x with itself: a comparison with a pinned term is false. 8 = 8 is true. The constant 10 is above the top
    -- and no reading, so that 10 = 10 is true.
    ∷ judges rule_under plan_top 0 1 0
    ∷ judges rule_under plan_top 3 1 0
    ∷ judges rule_under plan_top 4 1 0
    ∷ judges rule_under plan_top 4 2 1
    ∷ judges rule_under plan_top 5 1 1
    -- Up to the top: 0, 3, 6, then pinned for ever, so that 9 is never seen.
    ∷ judges rule_under plan_top 0 3 2
    ∷ judges rule_under plan_top 1 3 2
    ∷ judges rule_under plan_top 3 3 0
    ∷ judges rule_under plan_top 4 3 2
    ∷ judges rule_under plan_top 6 3 2
    -- The same readings without a top.
    ∷ judges rule_under plan_e9 1 0 1
    ∷ judges rule_under plan_e9 3 0 2
    ∷ judges rule_under plan_e9 4 0 1
    ∷ judges rule_under plan_e9 6 0 0
    -- Down from the top: pinned twice, then 6, 3 and on.
    ∷ judges rule_under plan_top 0 4 2
    ∷ judges rule_under plan_top 3 4 0
    ∷ judges rule_under plan_top 6 4 2
    -- Up to it on pass 1003: -1 < x on the three passes before, and 9 < x never.
    ∷ judges rule_under plan_top 1 5 2
    ∷ judges rule_under plan_top 2 5 0
    ∷ judges rule_under plan_top 6 5 2
    -- Pinned in the lead-in, and before it nothing is seen.
    ∷ judges rule_pinned_back plan_top 0 0 1
    ∷ judges rule_pinned_back plan_top 1 0 0
    -- The largest top.
    ∷ judges rule_pinned plan_top_high 0 0 2
    -- Windows under a top of 9180. A day on each pass, 540 to 7740, and 9180 is pinned; 9180 for ever; a week back on each pass, pinned
    -- three times, then minute 540 for ever.
    ∷ judges rule_top_windows plan_top_clock 0 0 2
    ∷ judges rule_top_windows plan_top_clock 1 0 0
    ∷ judges rule_top_windows plan_top_clock 1 1 0
    ∷ judges rule_top_windows plan_top_clock 0 2 2
    -- 12: no such part, no such row, also where the lead-in is counted, no atom. It comes after 1 to 6.
    ∷ judges rule_e1 plan_a 1 0 51539607552  -- 12, 0, 0
    ∷ judges rule_e1 plan_a 0 3 51539607552  -- 12, 0, 0
    ∷ judges rule_e1 plan_lead 0 2 51539607552  -- 12, 0, 0
    ∷ judges rule_e2 plan_a 1 0 51539607552  -- 12, 0, 0
    ∷ judges rule_e1 plan_start_drift 9 9 25769803777  -- 6, 0, 1
    ∷ []

-- What is said of the examples beside `Says`.
pub record MoreSaid : Type 0 where
  -- every call returns its number and leaves its bytes
  pub words : All Gives more
  -- the sheets and plans listed read as stated, E1 to E10's among them
  pub sheets_read : All ReadsAs sheets
  -- parts are put as stated
  pub parts_put : All PutsAs sheets_put
  pub plans_read : All SizedAs plans
  pub runs : All SeesAs sights
  -- Y, Z, S and T are nested as deep as stated, and 4 passes more are the most where nothing drifts
  pub nestings : All NestsAs nested
  -- what settling's promise asks of its inputs is met: some clear 1 to 6 and 13, and in some plan nothing drifts
  pub lent : settling.Lent rule_e8 plan_high lent_plan lent_scratch
  pub still : NoDrift plan_a
  -- every byte string of both tables is bytes, E10's witness being any two bytes
  pub example_bytes : (lo hi : ℕ) → lo < 256 → hi < 256 → All (λ question. All Bytes (question_bytes question)) (examples lo hi)
  pub more_bytes : All (λ call. All Bytes (call_bytes call)) more
  -- bytes are the numbers up to 255, at every place of a list
  pub within : Bytes (0 ∷ 255 ∷ [])
  pub beyond : ¬ Bytes (0 ∷ 256 ∷ [])
