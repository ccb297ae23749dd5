pub mod Lines
pub mod LineLaws
pub mod Report
pub mod ReportLaws
