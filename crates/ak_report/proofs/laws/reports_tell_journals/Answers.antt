use Rattle.ak_report.proofs.LinesTold.{reports_tell}
use Rattle.ak_report.proofs.laws.reports_tell_journals.Goals as goal

pub returns : goal.returns
returns c = reports_tell
