-- A machine's tables, pages and processors as plain values; what each table stands for; and the view of them that rows read.
pub mod MachineView
pub mod MachineState
pub mod TrackSteps
pub mod Tables
pub mod TableChanges
