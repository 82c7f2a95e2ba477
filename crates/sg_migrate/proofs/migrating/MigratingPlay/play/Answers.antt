use Rattle.std.proofs.Common.{◌≡◌, ℕ, [], Err, ap, ◌∙◌, subst}
use Rattle.sg_edge.proofs.Links.{added_none}
use Rattle.sg_edge.specs.Told.{Wrote}
use Rattle.sg_lines.specs.LineText.{line_text}
use Rattle.sg_migrate.proofs.Migrations.{line_cut, line_taken, text}
use Rattle.sg_migrate.specs.Migrated.{migrated_line, moment_after}
use Rattle.sg_migrate.specs.declared.lines.LineOfVersionOne.{LineOfVersionOne}
use Rattle.sg_trace.proofs.Writings.{written_prefix}
use Rattle.sg_trace.specs.Output.{IsWritten}
use Rattle.sg_migrate.proofs.migrating.MigratingPlay.play.Goals as goal

-- its text, by the moment that is known
text_at : (l : LineOfVersionOne) {a b : ℕ} → a ≡ b → line_text (migrated_line a l.line) ≡ line_text (migrated_line b l.line)
text_at l is = ap (λ (m : ℕ). line_text (migrated_line m l.line)) is

pub returns-in-Err-clause-played : goal.returns-in-Err-clause-played
returns-in-Err-clause-played g c = λ moment stands.
    let written = subst (IsWritten (Err c.in-Err.status) _ _) (ap line_text c.migrated_line.ensures ∙ text_at c.args.line stands) c.in-Err.ensures.written in
    let part = written_prefix c.in-Err.status _ _ _ written in
    ([], part.0, added_none _, part.2, line_cut moment c.args.line c.in-Err.status _ _ _ part.0 written part.1)

pub returns-clause-played : goal.returns-clause-played
returns-clause-played g c = λ moment stands.
    let wrote = subst (Wrote _ _) (ap line_text c.migrated_line.ensures ∙ text_at c.args.line stands) c.in-Ok.ensures.written in
    ([], text moment c.args.line, added_none _, wrote, line_taken moment c.args.line _ (c.moment_after-next.ensures ∙ ap (λ (m : ℕ). moment_after m c.args.line.line) stands))
