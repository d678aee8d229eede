pub mod Views
pub mod SightViews
pub mod SettingViews
pub mod FileViews
