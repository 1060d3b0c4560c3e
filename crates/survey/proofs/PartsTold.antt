-- The parts of the survey in their order tell the whole report.
use Rattle.std.proofs.Common.{◌≡◌, List, [], ◌∷◌, ◌++◌, append_assoc, append-nil}
use Rattle.form.specs.Model.{Form}
use Rattle.rules.specs.declared.rule.Rule.TheVariants.{PropagateWithoutVersion, VersionActionWithoutVersion, LongFlagDash, SameLongFlag, SameLetterFlag, PositionsWithGaps, TwoLast, RequiredLastWithSubcommands, MulticallWithoutBinaryName, FormCut}
use Rattle.rules.specs.declared.breach.Breach.{Breach}
use Rattle.rules.specs.Order.{blocks}
use Rattle.rules.specs.Rows.{of_the_form, by_argument, by_subcommand, by_group, by_long_flag, by_letter_flag, by_subcommand_name, by_position, later, whole, propagate_without_version, version_without_version, dashed, arg_rows, group_rows, positions_with_gaps, trailing_rows, two_last, required_last, multicall_without_name}
use Rattle.rules.specs.Report.{section_report, breaches}
use Rattle.survey.specs.Ends.{ends_report}

-- each part is a section of the report, but for the two ends, which are three
abbrev pub in_parts : Form → List Breach
in_parts f =
    section_report f (of_the_form PropagateWithoutVersion propagate_without_version)
    ++ (section_report f (by_argument 2 (whole VersionActionWithoutVersion version_without_version ∷ []))
    ++ (section_report f (by_subcommand LongFlagDash (λ s. dashed s.long))
    ++ (section_report f (by_argument 4 arg_rows)
    ++ (section_report f (by_group 31 group_rows)
    ++ (section_report f (by_long_flag SameLongFlag)
    ++ (section_report f (by_letter_flag SameLetterFlag)
    ++ (section_report f by_subcommand_name
    ++ (section_report f (of_the_form PositionsWithGaps positions_with_gaps)
    ++ (section_report f (by_argument 41 trailing_rows)
    ++ (ends_report f
    ++ (section_report f by_position
    ++ (section_report f (by_argument 48 (later TwoLast two_last ∷ []))
    ++ (section_report f (by_argument 49 (whole RequiredLastWithSubcommands required_last ∷ []))
    ++ (section_report f (of_the_form MulticallWithoutBinaryName multicall_without_name)
    ++ section_report f (of_the_form FormCut (λ g. g.cut))))))))))))))))

pub parts_told : (f : Form) → breaches f ≡ in_parts f
unfolding blocks breaches
parts_told f = simp (append_assoc, append-nil)
