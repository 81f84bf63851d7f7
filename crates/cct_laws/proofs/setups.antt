-- What holds of a setup: its devices by address, what a scan lists, and that a plan is the only one.
pub mod DeviceAt
pub mod Rising
pub mod ScanLists
pub mod UniquePlan
