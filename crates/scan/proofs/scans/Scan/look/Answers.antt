use Rattle.scan.proofs.Endings.{behind_ended}
use Rattle.scan.proofs.scans.Scan.look.Goals as goal

pub returns-in-Ended-clause-found : goal.returns-in-Ended-clause-found
returns-in-Ended-clause-found g c = behind_ended g.S.Source.meaning c.args.self.now c.in-Ended.field-0 c.in-Ended.is
