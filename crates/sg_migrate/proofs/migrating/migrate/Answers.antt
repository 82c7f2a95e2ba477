use Rattle.std.proofs.Common.{◌∙◌, [], refl, sym}
use Rattle.sg_migrate.proofs.Migrations.{quiet_so, run_undrawn}
use Rattle.sg_migrate.specs.Migrated.{of_migration, written_of}
use Rattle.sg_trace.proofs.Ends.{completes}
use Rattle.sg_migrate.proofs.migrating.migrate.Goals as goal

pub returns-clause-ran : goal.returns-clause-ran
returns-clause-ran g c =
    let ran = c.run_script.ensures.ran 0 refl in
    let run = run_undrawn c.run_script.result _ _ ran.0 ran.1 ran.2 ran.3.drew ran.3 in
    (ran.0, ran.2, record { run = run; quiet = quiet_so c.run_script.result ran.0 ran.2 _ run.ends })

pub returns-clause-read : goal.returns-clause-read
returns-clause-read g c = c.run_script.ensures.prompt refl

pub returns-clause-complete : goal.returns-clause-complete
returns-clause-complete g c = λ source sink all rest told told' whole.
    let ran = returns-clause-ran g c in
    completes of_migration (written_of 0) 1 ran.0 [] ran.1 _ _ ran.2.run.took c.run_script.result ran.2.run.ends
    (λ is. source ((returns-clause-read g c).rose is)) (λ is. sink (c.run_script.ensures.write.rose is)) ran.2.quiet
    all rest told told' (λ n fault is. (let same = sym whole ∙ is in cc))
